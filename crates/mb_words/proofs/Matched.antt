-- What `clap` makes of a command's words in their one order.
use Rattle.std.proofs.Common.{◌≡◌, refl, ℕ, Bool, true, false, ◌&&◌, nat_le, List, [], ◌∷◌, length, Option, Some, None}
use Rattle.clap.specs.Words.{matches_of, takes}
use Rattle.std.specs.List.{list_all}
use Rattle.std.proofs.Common.{◌≤◌, arith}
use Rattle.std.proofs.lemmas.Bool.{leb-true}
use Rattle.clap.proofs.WalkLemmas.{both}
use Rattle.clap.specs.ValueTests.{accepts}
use Rattle.clap.specs.declared.builder.value_parser.ValueParser.TheVariants as vp
use Rattle.clap.proofs.OnLiterals.{clap_on_literals}
use Rattle.mb_words.specs.declared.command.Command.{Command}
use Rattle.mb_words.specs.declared.command.Command.TheVariants.{Run, Shared, Check, Load, Sides}
use Rattle.mb_words.specs.Words.{Word}
use Rattle.mb_words.specs.Parts.{Chosen}
use Rattle.mb_words.specs.machine.Matching.{app_for, in_order, takes_operands, Finds}
use Rattle.mb_words.proofs.Operands.{over, all_pass}

abbrev choice : Option Word → Option Word → Option Word → Bool → List Word → Chosen
choice p s b t operands = record { operands = operands; policy = p; schedule = s; budget = b; traced = t }

abbrev pub Matched : Command → Chosen → Type 0
Matched c chosen = Finds c chosen (matches_of (app_for c) (in_order c chosen)) × (takes (app_for c) (in_order c chosen) ≡ true)

well : (x y z : Bool) → x ≡ true → y ≡ true → z ≡ true → ((x && (y && z)) && true) ≡ true
well false y z ex ey ez = cc
well true false z ex ey ez = cc
well true true false ex ey ez = cc
well true true true ex ey ez = refl

-- the number of operands is in the range, and each is a value
enough : (least most : ℕ) (v : Word) (vs : List Word)
    → nat_le least (length (v ∷ vs)) ≡ true → nat_le (length (v ∷ vs)) most ≡ true
    → ((nat_le least (length (v ∷ vs)) && (nat_le (length (v ∷ vs)) most && list_all (accepts false vp.String) vs)) && true) ≡ true
enough least most v vs low high =
    well (nat_le least (length (v ∷ vs))) (nat_le (length (v ∷ vs)) most) (list_all (accepts false vp.String) vs) low high (all_pass vs)

run_matched : (p s b : Option Word) (t : Bool) (v : Word) (vs : List Word)
    → nat_le 2 (length (v ∷ vs)) ≡ true → nat_le (length (v ∷ vs)) 2 ≡ true
    → Matched Run (choice p s b t (v ∷ vs))
unfolding clap_on_literals
run_matched None None None true v vs low high =
    over Run refl (choice None None None true (v ∷ vs)) _ v vs ((refl, refl, refl, refl, refl), enough 2 2 v vs low high)
run_matched None None None false v vs low high =
    over Run refl (choice None None None false (v ∷ vs)) _ v vs ((refl, refl, refl, refl, refl), enough 2 2 v vs low high)
run_matched None None (Some b) true v vs low high =
    over Run refl (choice None None (Some b) true (v ∷ vs)) _ v vs ((refl, refl, refl, refl, refl), enough 2 2 v vs low high)
run_matched None None (Some b) false v vs low high =
    over Run refl (choice None None (Some b) false (v ∷ vs)) _ v vs ((refl, refl, refl, refl, refl), enough 2 2 v vs low high)
run_matched None (Some s) None true v vs low high =
    over Run refl (choice None (Some s) None true (v ∷ vs)) _ v vs ((refl, refl, refl, refl, refl), enough 2 2 v vs low high)
run_matched None (Some s) None false v vs low high =
    over Run refl (choice None (Some s) None false (v ∷ vs)) _ v vs ((refl, refl, refl, refl, refl), enough 2 2 v vs low high)
run_matched None (Some s) (Some b) true v vs low high =
    over Run refl (choice None (Some s) (Some b) true (v ∷ vs)) _ v vs ((refl, refl, refl, refl, refl), enough 2 2 v vs low high)
run_matched None (Some s) (Some b) false v vs low high =
    over Run refl (choice None (Some s) (Some b) false (v ∷ vs)) _ v vs ((refl, refl, refl, refl, refl), enough 2 2 v vs low high)
run_matched (Some p) None None true v vs low high =
    over Run refl (choice (Some p) None None true (v ∷ vs)) _ v vs ((refl, refl, refl, refl, refl), enough 2 2 v vs low high)
run_matched (Some p) None None false v vs low high =
    over Run refl (choice (Some p) None None false (v ∷ vs)) _ v vs ((refl, refl, refl, refl, refl), enough 2 2 v vs low high)
run_matched (Some p) None (Some b) true v vs low high =
    over Run refl (choice (Some p) None (Some b) true (v ∷ vs)) _ v vs ((refl, refl, refl, refl, refl), enough 2 2 v vs low high)
run_matched (Some p) None (Some b) false v vs low high =
    over Run refl (choice (Some p) None (Some b) false (v ∷ vs)) _ v vs ((refl, refl, refl, refl, refl), enough 2 2 v vs low high)
run_matched (Some p) (Some s) None true v vs low high =
    over Run refl (choice (Some p) (Some s) None true (v ∷ vs)) _ v vs ((refl, refl, refl, refl, refl), enough 2 2 v vs low high)
run_matched (Some p) (Some s) None false v vs low high =
    over Run refl (choice (Some p) (Some s) None false (v ∷ vs)) _ v vs ((refl, refl, refl, refl, refl), enough 2 2 v vs low high)
run_matched (Some p) (Some s) (Some b) true v vs low high =
    over Run refl (choice (Some p) (Some s) (Some b) true (v ∷ vs)) _ v vs ((refl, refl, refl, refl, refl), enough 2 2 v vs low high)
run_matched (Some p) (Some s) (Some b) false v vs low high =
    over Run refl (choice (Some p) (Some s) (Some b) false (v ∷ vs)) _ v vs ((refl, refl, refl, refl, refl), enough 2 2 v vs low high)

sides_matched : (p s b : Option Word) (t : Bool) (v : Word) (vs : List Word)
    → nat_le 2 (length (v ∷ vs)) ≡ true → nat_le (length (v ∷ vs)) 8 ≡ true
    → Matched Sides (choice p s b t (v ∷ vs))
unfolding clap_on_literals
sides_matched None None None true v vs low high =
    over Sides refl (choice None None None true (v ∷ vs)) _ v vs ((refl, refl, refl, refl, refl), enough 2 8 v vs low high)
sides_matched None None None false v vs low high =
    over Sides refl (choice None None None false (v ∷ vs)) _ v vs ((refl, refl, refl, refl, refl), enough 2 8 v vs low high)
sides_matched None None (Some b) true v vs low high =
    over Sides refl (choice None None (Some b) true (v ∷ vs)) _ v vs ((refl, refl, refl, refl, refl), enough 2 8 v vs low high)
sides_matched None None (Some b) false v vs low high =
    over Sides refl (choice None None (Some b) false (v ∷ vs)) _ v vs ((refl, refl, refl, refl, refl), enough 2 8 v vs low high)
sides_matched None (Some s) None true v vs low high =
    over Sides refl (choice None (Some s) None true (v ∷ vs)) _ v vs ((refl, refl, refl, refl, refl), enough 2 8 v vs low high)
sides_matched None (Some s) None false v vs low high =
    over Sides refl (choice None (Some s) None false (v ∷ vs)) _ v vs ((refl, refl, refl, refl, refl), enough 2 8 v vs low high)
sides_matched None (Some s) (Some b) true v vs low high =
    over Sides refl (choice None (Some s) (Some b) true (v ∷ vs)) _ v vs ((refl, refl, refl, refl, refl), enough 2 8 v vs low high)
sides_matched None (Some s) (Some b) false v vs low high =
    over Sides refl (choice None (Some s) (Some b) false (v ∷ vs)) _ v vs ((refl, refl, refl, refl, refl), enough 2 8 v vs low high)
sides_matched (Some p) None None true v vs low high =
    over Sides refl (choice (Some p) None None true (v ∷ vs)) _ v vs ((refl, refl, refl, refl, refl), enough 2 8 v vs low high)
sides_matched (Some p) None None false v vs low high =
    over Sides refl (choice (Some p) None None false (v ∷ vs)) _ v vs ((refl, refl, refl, refl, refl), enough 2 8 v vs low high)
sides_matched (Some p) None (Some b) true v vs low high =
    over Sides refl (choice (Some p) None (Some b) true (v ∷ vs)) _ v vs ((refl, refl, refl, refl, refl), enough 2 8 v vs low high)
sides_matched (Some p) None (Some b) false v vs low high =
    over Sides refl (choice (Some p) None (Some b) false (v ∷ vs)) _ v vs ((refl, refl, refl, refl, refl), enough 2 8 v vs low high)
sides_matched (Some p) (Some s) None true v vs low high =
    over Sides refl (choice (Some p) (Some s) None true (v ∷ vs)) _ v vs ((refl, refl, refl, refl, refl), enough 2 8 v vs low high)
sides_matched (Some p) (Some s) None false v vs low high =
    over Sides refl (choice (Some p) (Some s) None false (v ∷ vs)) _ v vs ((refl, refl, refl, refl, refl), enough 2 8 v vs low high)
sides_matched (Some p) (Some s) (Some b) true v vs low high =
    over Sides refl (choice (Some p) (Some s) (Some b) true (v ∷ vs)) _ v vs ((refl, refl, refl, refl, refl), enough 2 8 v vs low high)
sides_matched (Some p) (Some s) (Some b) false v vs low high =
    over Sides refl (choice (Some p) (Some s) (Some b) false (v ∷ vs)) _ v vs ((refl, refl, refl, refl, refl), enough 2 8 v vs low high)

shared_matched : (p s b : Option Word) (t : Bool) (v : Word) (vs : List Word)
    → nat_le 2 (length (v ∷ vs)) ≡ true → nat_le (length (v ∷ vs)) 2 ≡ true
    → Matched Shared (choice p s b t (v ∷ vs))
unfolding clap_on_literals
shared_matched p None None true v vs low high =
    over Shared refl (choice p None None true (v ∷ vs)) _ v vs ((refl, refl, refl, refl, refl), enough 2 2 v vs low high)
shared_matched p None None false v vs low high =
    over Shared refl (choice p None None false (v ∷ vs)) _ v vs ((refl, refl, refl, refl, refl), enough 2 2 v vs low high)
shared_matched p None (Some b) true v vs low high =
    over Shared refl (choice p None (Some b) true (v ∷ vs)) _ v vs ((refl, refl, refl, refl, refl), enough 2 2 v vs low high)
shared_matched p None (Some b) false v vs low high =
    over Shared refl (choice p None (Some b) false (v ∷ vs)) _ v vs ((refl, refl, refl, refl, refl), enough 2 2 v vs low high)
shared_matched p (Some s) None true v vs low high =
    over Shared refl (choice p (Some s) None true (v ∷ vs)) _ v vs ((refl, refl, refl, refl, refl), enough 2 2 v vs low high)
shared_matched p (Some s) None false v vs low high =
    over Shared refl (choice p (Some s) None false (v ∷ vs)) _ v vs ((refl, refl, refl, refl, refl), enough 2 2 v vs low high)
shared_matched p (Some s) (Some b) true v vs low high =
    over Shared refl (choice p (Some s) (Some b) true (v ∷ vs)) _ v vs ((refl, refl, refl, refl, refl), enough 2 2 v vs low high)
shared_matched p (Some s) (Some b) false v vs low high =
    over Shared refl (choice p (Some s) (Some b) false (v ∷ vs)) _ v vs ((refl, refl, refl, refl, refl), enough 2 2 v vs low high)

load_matched : (p s b : Option Word) (t : Bool) (v : Word) (vs : List Word)
    → nat_le 2 (length (v ∷ vs)) ≡ true → nat_le (length (v ∷ vs)) 2 ≡ true
    → Matched Load (choice p s b t (v ∷ vs))
unfolding clap_on_literals
load_matched p s b t v vs low high =
    over Load refl (choice p s b t (v ∷ vs)) _ v vs ((refl, refl, refl, refl, refl), enough 2 2 v vs low high)

check_matched : (p s b : Option Word) (t : Bool) (v : Word) → Matched Check (choice p s b t (v ∷ []))
unfolding clap_on_literals
check_matched p s b t v = ((refl, refl, refl, refl, refl), refl)

matched_of : (c : Command) (p s b : Option Word) (t : Bool) (operands : List Word)
    → takes_operands c operands ≡ true → Matched c (choice p s b t operands)
matched_of c p s b t [] e = absurd (none c e)
  where
    none : (c : Command) → takes_operands c [] ≡ true → ⊥
    none Run e = cc
    none Shared e = cc
    none Check e = cc
    none Load e = cc
    none Sides e = cc
matched_of Run p s b t (v ∷ vs) e = run_matched p s b t v vs (both _ _ e).0 (both _ _ e).1
matched_of Sides p s b t (v ∷ vs) e = sides_matched p s b t v vs (both _ _ e).0 (both _ _ e).1
matched_of Shared p s b t (v ∷ vs) e = shared_matched p s b t v vs (both _ _ e).0 (both _ _ e).1
matched_of Load p s b t (v ∷ vs) e = load_matched p s b t v vs (both _ _ e).0 (both _ _ e).1
matched_of Check p s b t (v ∷ []) e = check_matched p s b t v
matched_of Check p s b t (v ∷ w ∷ vs) e =
    let most : length (v ∷ (w ∷ vs)) ≤ 1 = leb-true _ _ (both _ _ e).1 in
    absurd (omega arith)

-- `clap` takes the words, and its rows give what was chosen
pub matched : (c : Command) (chosen : Chosen) → takes_operands c chosen.operands ≡ true → Matched c chosen
matched c chosen e = matched_of c chosen.policy chosen.schedule chosen.budget chosen.traced chosen.operands e
