use Rattle.std.proofs.Common.{◌≡◌, ◌∙◌, List, Option, Some, ap, length, map, option_map, refl, slice_get, subst, sym, ℕ}
use Rattle.std.specs.Prelude.{All}
use Rattle.std.proofs.lemmas.Option.{slice_get-map, slice_get_read}
use Rattle.mb_frames.proofs.Reading.{form-read, texts-in}
use Rattle.mb_frames.proofs.Sorting.{grammatical, params-named, parts-of-sort}
use Rattle.mb_frames.specs.Grammatical.{IsGrammatical, IsProgram}
use Rattle.mb_frames.specs.Told.{told_at}
use Rattle.mb_tree.specs.Roses.{view}
use Rattle.mb_tree.specs.declared.tree.Node.{Node}
use Rattle.mb_world.specs.Data.{Script, program_of, script_of}
use Rattle.mb_world.specs.Ids.{Maybe}
use Rattle.mb_frames.proofs.nodes.form_at.Goals as goal

-- the node that was read is that of the script
viewed : (nodes xs : List Node) (i : ℕ) (x : Node) → xs ≡ nodes → slice_get xs i ≡ Some x
    → slice_get (map view nodes) i ≡ Some (view x)
viewed nodes xs i x e h =
    ap (λ ys. slice_get (map view ys) i) (sym e) ∙ slice_get-map view xs i ∙ ap (option_map view) h

nodes-of : (p : Option Script) (q : Script) → p ≡ Some q → Maybe IsProgram p → All (IsGrammatical q.nodes) q.nodes
nodes-of p q e h = let r : IsProgram q = subst (Maybe IsProgram) e h in r.nodes

pub returns-clause-form : goal.returns-clause-form
returns-clause-form c =
    let d = c.args.w.now in
    let i = c.args.node.0 in
    let x = c.in_ok-node.node.now in
    let p : Script = script_of c.in_ok-program.program.now in
    let e : program_of d c.args.home ≡ Some p = sym c.in_ok-program.ensures in
    let q = c.in_ok-node.ensures.lookup in
    let r : slice_get c.deref.result.now i ≡ Some x
    = slice_get_read c.deref.result.now (length c.deref.result.now) i x refl q.3.0 q.1 in
    let h : slice_get p.nodes i ≡ Some (view x) = viewed _ c.deref.result.now i x c.deref.ensures.value r in
    let g = nodes-of (program_of d c.args.home) p e c.requires.script in
    ap (option_map (told_at d c.args.home)) c.form.ensures
    ∙ form-read d c.args.home p i (view x) e h (grammatical p g i (view x) h)

pub returns-clause-parts : goal.returns-clause-parts
returns-clause-parts c =
    let d = c.args.w.now in
    let i = c.args.node.0 in
    let x = c.in_ok-node.node.now in
    let p : Script = script_of c.in_ok-program.program.now in
    let e : program_of d c.args.home ≡ Some p = sym c.in_ok-program.ensures in
    let q = c.in_ok-node.ensures.lookup in
    let r : slice_get c.deref.result.now i ≡ Some x
    = slice_get_read c.deref.result.now (length c.deref.result.now) i x refl q.3.0 q.1 in
    let h : slice_get p.nodes i ≡ Some (view x) = viewed _ c.deref.result.now i x c.deref.ensures.value r in
    let g = nodes-of (program_of d c.args.home) p e c.requires.script in
    parts-of-sort p g d c.args.home e (view x) (grammatical p g i (view x) h) c.form.result c.form.ensures

pub returns-clause-named : goal.returns-clause-named
returns-clause-named c =
    let d = c.args.w.now in
    let i = c.args.node.0 in
    let x = c.in_ok-node.node.now in
    let p : Script = script_of c.in_ok-program.program.now in
    let e : program_of d c.args.home ≡ Some p = sym c.in_ok-program.ensures in
    let q = c.in_ok-node.ensures.lookup in
    let r : slice_get c.deref.result.now i ≡ Some x
    = slice_get_read c.deref.result.now (length c.deref.result.now) i x refl q.3.0 q.1 in
    let h : slice_get p.nodes i ≡ Some (view x) = viewed _ c.deref.result.now i x c.deref.ensures.value r in
    let g = nodes-of (program_of d c.args.home) p e c.requires.script in
    params-named p g d c.args.home e (view x) (grammatical p g i (view x) h) c.form.result c.form.ensures

pub returns-clause-texts : goal.returns-clause-texts
returns-clause-texts c =
    let d = c.args.w.now in
    let i = c.args.node.0 in
    let x = c.in_ok-node.node.now in
    let p : Script = script_of c.in_ok-program.program.now in
    let e : program_of d c.args.home ≡ Some p = sym c.in_ok-program.ensures in
    let q = c.in_ok-node.ensures.lookup in
    let r : slice_get c.deref.result.now i ≡ Some x
    = slice_get_read c.deref.result.now (length c.deref.result.now) i x refl q.3.0 q.1 in
    let h : slice_get p.nodes i ≡ Some (view x) = viewed _ c.deref.result.now i x c.deref.ensures.value r in
    texts-in d c.args.home p i (view x) c.requires.ids e h c.form.result c.form.ensures
