-- A node that was read tells the form that stands at its place.
use Rattle.std.proofs.Common.{◌≡◌, ◌∙◌, List, None, Option, Some, ap, is_some, refl, slice_get, subst, sym, true≢false, ℕ}
use Rattle.std.specs.Option.{option_map}
use Rattle.std.specs.Prelude.{IfSome}
use Rattle.std.proofs.lemmas.Option.{slice_get-map}
use Rattle.mb_base.specs.declared.value.Side.{Side}
use Rattle.mb_base.specs.declared.value.StrId.{StrId}
use Rattle.mb_frames.specs.Standing.{forms_at}
use Rattle.mb_tree.specs.Form as t
use Rattle.mb_tree.specs.Seen.{seen}
use Rattle.mb_tree.specs.declared.form.Form.{Form as Given}
use Rattle.mb_tree.proofs.Shapes.{form_is}
use Rattle.mb_tree.specs.Roses.{Label, Shape}
use Rattle.mb_tree.specs.declared.kind.Kind.{Kind}
use Rattle.mb_world.proofs.Grow.{All-at}
use Rattle.mb_world.specs.Data.{Data, Script, program_of}
use Rattle.mb_world.specs.Ids.{HasItsIds, Maybe, ScriptIn, TextIn}
use Rattle.mb_world.specs.FormOf.{TreeNode, form_of}
use Rattle.mb_world.specs.Image.{node_in, nodes_in, program_in}
use Rattle.mb_frames.proofs.Forms.{script-in}
use Rattle.mb_frames.proofs.Told.{KeyFits, LabelFits, fits, told-form}
use Rattle.mb_frames.specs.Grammatical.{IsGrammatical}
use Rattle.mb_frames.specs.Told.{FormIn, NameIn, shapes_of, told, told_at}

pub form-none : (d : Data) (home : Side) (n : ℕ) → program_of d home ≡ None → slice_get (forms_at d home) n ≡ None
form-none d home n e = ap (λ (p : Option Script). slice_get (program_in d.texts p).forms n) e

forms-of : (texts : List (List ℕ)) (p : Script) (n : ℕ)
    → slice_get (program_in texts (Some p)).forms n
    ≡ option_map (form_of (nodes_in texts p.nodes)) (option_map (node_in texts) (slice_get p.nodes n))
forms-of texts p n =
    let ns : List TreeNode = nodes_in texts p.nodes in
    slice_get-map (form_of ns) ns n ∙ ap (option_map (form_of ns)) (slice_get-map (node_in texts) p.nodes n)

pub form-past : (d : Data) (home : Side) (p : Script) (n : ℕ) → program_of d home ≡ Some p → slice_get p.nodes n ≡ None
    → slice_get (forms_at d home) n ≡ None
form-past d home p n e h =
    ap (λ (o : Option Script). slice_get (program_in d.texts o).forms n) e
    ∙ forms-of d.texts p n
    ∙ ap (λ (o : Option Shape). option_map (form_of (nodes_in d.texts p.nodes)) (option_map (node_in d.texts) o)) h

pub form-read : (d : Data) (home : Side) (p : Script) (n : ℕ) (x : Shape) → program_of d home ≡ Some p
    → slice_get p.nodes n ≡ Some x → IsGrammatical p.nodes x
    → option_map (told_at d home) (t.form_of x) ≡ slice_get (forms_at d home) n
form-read d home p n x e h g =
    let P : Option Script → Type 0 = λ o.
    option_map (told d.texts (nodes_in d.texts (shapes_of o))) (t.form_of x) ≡ slice_get (program_in d.texts o).forms n in
    subst P (sym e) (by (t.form_of x) refl)
  where
    ns : List TreeNode
    ns = nodes_in d.texts p.nodes

    by : (o : Option t.Form) → t.form_of x ≡ o → option_map (told d.texts ns) o ≡ slice_get (program_in d.texts (Some p)).forms n
    by None k = absurd (true≢false (sym g.form ∙ ap is_some k))
    by (Some f) k =
        ap Some (sym (told-form d.texts ns x f k))
        ∙ sym (forms-of d.texts p n
        ∙ ap (λ (o : Option Shape). option_map (form_of ns) (option_map (node_in d.texts) o)) h)

-- the name of a node that was read is a text of the world
pub name-in : (d : Data) (home : Side) (p : Script) (n : ℕ) (x : Shape) (t : StrId) → HasItsIds d
    → program_of d home ≡ Some p → slice_get p.nodes n ≡ Some x → x.label.name ≡ Some t → TextIn d t
name-in d home p n x t i e h k =
    let s : ScriptIn d p = script-in d home p i e in
    subst (Maybe (TextIn d)) k (All-at (λ (y : Shape). Maybe (TextIn d) y.label.name) p.nodes n x h s.nodes_in)

-- ---- the texts of a form

key-in : (d : Data) (label : Label) (key : t.PropName) → KeyFits label key → Maybe (TextIn d) label.name → NameIn d key
key-in d label (t.Written x) h m = subst (Maybe (TextIn d)) h m
key-in d label (t.Whole x) h m = tt
key-in d label (t.Computed x) h m = tt

form-in : (d : Data) (label : Label) (f : t.Form) → LabelFits label f → Maybe (TextIn d) label.name → FormIn d f
form-in d label (t.DeclForm x v) h m = subst (Maybe (TextIn d)) h m
form-in d label (t.FunctionDeclForm x p) h m = subst (Maybe (TextIn d)) h m
form-in d label (t.ParamForm x) h m = subst (Maybe (TextIn d)) h m
form-in d label (t.MemberForm b x) h m = subst (Maybe (TextIn d)) h m
form-in d label (t.NameForm x) h m = subst (Maybe (TextIn d)) h m
form-in d label (t.TextForm x) h m = subst (Maybe (TextIn d)) h m
form-in d label (t.NumberForm x) h m = tt
form-in d label (t.FunctionForm x p) h m = subst (Maybe (TextIn d)) h m
form-in d label (t.ValueForm key v) h m = key-in d label key h m
form-in d label (t.MethodForm key p) h m = key-in d label key h m
form-in d label (t.GetterForm key p) h m = key-in d label key h.0 m
form-in d label (t.SetterForm key p) h m = key-in d label key h.0 m
form-in d label (t.ScriptForm ss) h m = tt
form-in d label (t.LetForm ss) h m = tt
form-in d label (t.ConstForm ss) h m = tt
form-in d label (t.BlockForm ss) h m = tt
form-in d label t.EmptyForm h m = tt
form-in d label (t.ExprStmtForm v) h m = tt
form-in d label (t.IfForm a b c) h m = tt
form-in d label (t.WhileForm a b) h m = tt
form-in d label (t.DoWhileForm a b) h m = tt
form-in d label (t.ForForm a b c x) h m = tt
form-in d label (t.ReturnForm v) h m = tt
form-in d label (t.ThrowForm v) h m = tt
form-in d label t.BreakForm h m = tt
form-in d label t.ContinueForm h m = tt
form-in d label (t.TryForm a b c x) h m = tt
form-in d label (t.SeqForm vs) h m = tt
form-in d label (t.AssignForm a b) h m = tt
form-in d label (t.CompoundForm s a b) h m = tt
form-in d label (t.ArrowForm p b) h m = tt
form-in d label (t.CondForm a b c) h m = tt
form-in d label (t.OrForm a b) h m = tt
form-in d label (t.AndForm a b) h m = tt
form-in d label (t.BinaryForm s a b) h m = tt
form-in d label (t.UnaryForm s a) h m = tt
form-in d label (t.UpdateForm p q a) h m = tt
form-in d label (t.NewForm a args) h m = tt
form-in d label (t.IndexForm a b) h m = tt
form-in d label (t.CallForm a args) h m = tt
form-in d label t.ThisForm h m = tt
form-in d label (t.LiteralForm v) h m = tt
form-in d label (t.ArrayForm es) h m = tt
form-in d label (t.ObjectForm ps) h m = tt
form-in d label (t.GroupForm a) h m = tt

pub texts-in : (d : Data) (home : Side) (p : Script) (n : ℕ) (x : Shape) → HasItsIds d → program_of d home ≡ Some p
    → slice_get p.nodes n ≡ Some x → (o : Option Given) → option_map seen o ≡ t.form_of x
    → IfSome o (λ form. FormIn d (seen form))
texts-in d home p n x i e h None k = tt
texts-in d home p n x i e h (Some form) k =
    let q = form_is x.label.kind x.label x.children (seen form) (sym k) in
    let s : ScriptIn d p = script-in d home p i e in
    form-in d x.label (seen form)
    (fits x.label x.children (seen form) (ap (λ (z : Kind). t.form_by z x.label x.children) q.0 ∙ sym k))
    (All-at (λ (y : Shape). Maybe (TextIn d) y.label.name) p.nodes n x h s.nodes_in)
