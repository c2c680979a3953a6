use Rattle.std.proofs.Common.{◌≡◌, ◌∙◌, ap, map, string_bytes, subst}
use Rattle.mb_words.specs.Settings.{Answers}
use Rattle.clap.specs.Words.{found_of}
use Rattle.mb_words.specs.machine.Matching.{in_order}
use Rattle.mb_words.specs.machine.Scanning.{chosen_by, slots_of, text}
use Rattle.mb_words.proofs.Getting.{clap_found, clap_takes, some_operands, found_all}
use Rattle.mb_words.proofs.parse.by_clap.Goals as goal

pub returns-in_default : goal.returns-in_default
returns-in_default c =
    let words : map string_bytes c.as_slice.result.now ≡ in_order c.args.command (chosen_by c.args.chosen.now) =
    ap (map string_bytes) c.as_slice.ensures.value ∙ c.in_ok-words.ensures in
    let memory = c.in-Err.ensures.passes (clap_takes c.args.command (chosen_by c.args.chosen.now) _ _ c.in_ok-app.ensures words c.requires) in
    absurd (c.in_default.not-OutOfMemory (c.kind.ensures ∙ memory))

pub returns-in-Some : goal.returns-in-Some
returns-in-Some c =
    let words : map string_bytes c.as_slice.result.now ≡ in_order c.args.command (chosen_by c.args.chosen.now) =
    ap (map string_bytes) c.as_slice.ensures.value ∙ c.in_ok-words.ensures in
    let finds = clap_found c.args.command (chosen_by c.args.chosen.now) _ _ c.in-Ok.matches c.in_ok-app.ensures words c.requires
    c.in-Ok.ensures.matches in
    let same = found_all c.args.command (chosen_by c.args.chosen.now) (found_of c.in-Ok.matches) (map text c.in-Some.operands.now)
    (slots_of c.slots_in.result) finds c.in-Some.ensures c.slots_in.ensures in
    subst (Answers c.settings_of.result) same c.settings_of.ensures

pub returns : goal.returns
returns c =
    let words : map string_bytes c.as_slice.result.now ≡ in_order c.args.command (chosen_by c.args.chosen.now) =
    ap (map string_bytes) c.as_slice.ensures.value ∙ c.in_ok-words.ensures in
    let finds = clap_found c.args.command (chosen_by c.args.chosen.now) _ _ c.in-Ok.matches c.in_ok-app.ensures words c.requires
    c.in-Ok.ensures.matches in
    absurd (some_operands c.args.command (chosen_by c.args.chosen.now) (found_of c.in-Ok.matches) finds c.in-None.ensures)
