use Rattle.std.proofs.Common.{◌<◌, ◌∙◌, ◌∷◌, ◌≡◌, ◌^◌, Bool, List, Option, Some, [], length, lit<, refl, subst, sym}
use Rattle.std.proofs.lemmas.List.Elements.{All-cons, All-nil}
use Rattle.std.specs.List.{IsDistinct}
use Rattle.std.specs.Prelude.{nat_eq}
use Rattle.mb_base.specs.declared.value.NodeId.{NodeId}
use Rattle.mb_base.specs.declared.value.StrId.{StrId}
use Rattle.mb_frames.proofs.Opened.{all-of}
use Rattle.mb_frames.specs.Grammatical.{HasItsParts, IsGrammatical, IsOfNodeSort, IsProgram, without_own}
use Rattle.mb_frames.specs.Kinds.{Parameter, Statement}
use Rattle.mb_tree.specs.Form.{Form, FunctionDeclForm, FunctionForm, LetForm, ParamForm, ScriptForm, form_of}
use Rattle.mb_tree.specs.Roses.{Shape, bare, id_of, named, shape}
use Rattle.mb_tree.specs.declared.kind.Kind.TheVariants as k
use Rattle.mb_world.specs.Data.{Data}
use Rattle.mb_world.specs.Ids.{Maybe, ScriptIn, TextIn}
use Rattle.mb_frames.proofs.tests.small.small_program.Goals as goal

abbrev first : StrId
first = record { 0 = 0 }

abbrev nodes : List Shape
nodes =
    shape (named k.Param first) [] ∷ shape (named (k.FunctionDecl 1) first) (id_of 0 ∷ [])
    ∷ shape (bare k.Let) [] ∷ shape (bare k.Script) (id_of 1 ∷ id_of 2 ∷ []) ∷ []

grammatical : (x : Shape) (f : Form) → form_of x ≡ Some f → length x.children < 2 ^ 32
    → HasItsParts (IsOfNodeSort nodes) f → IsGrammatical nodes x
grammatical x f e few h = record {
  form = rw e refl;
  few = few;
  parts = λ g u.
      let q : Some f ≡ Some g = sym e ∙ u in
      let r : f ≡ g = cc in
      subst (HasItsParts (IsOfNodeSort nodes)) r h;
}

own-none : (o : Option Form) → without_own o [] ≡ []
own-none (Some (FunctionForm (Some name) parts)) = refl
own-none o = refl

none-distinct : IsDistinct (λ (x y : NodeId × StrId × Bool). nat_eq x.1.0 y.1.0) []
unfolding IsDistinct
none-distinct = tt

small : IsProgram (record { nodes = nodes; names = [] })
small = record {
  nodes = all-of (IsGrammatical nodes) nodes (
    grammatical (shape (named k.Param first) []) (ParamForm first) refl (lit< tt) tt,
    (
      grammatical (shape (named (k.FunctionDecl 1) first) (id_of 0 ∷ []))
          (FunctionDeclForm first (record { params = id_of 0 ∷ []; body = [] })) refl (lit< tt) (
            All-cons (IsOfNodeSort nodes Parameter) (id_of 0) [] refl (All-nil (IsOfNodeSort nodes Parameter)),
            All-nil (IsOfNodeSort nodes Statement),
          ),
      (
        grammatical (shape (bare k.Let) []) (LetForm []) refl (lit< tt) (All-nil _),
        (
          grammatical (shape (bare k.Script) (id_of 1 ∷ id_of 2 ∷ [])) (ScriptForm (id_of 1 ∷ id_of 2 ∷ [])) refl
              (lit< tt)
              (All-cons (IsOfNodeSort nodes Statement) (id_of 1) (id_of 2 ∷ []) refl
              (All-cons (IsOfNodeSort nodes Statement) (id_of 2) [] refl (All-nil (IsOfNodeSort nodes Statement)))),
          tt,
        ),
      ),
    ),
  );
  distinct = λ n x e.
      subst (IsDistinct (λ (y z : NodeId × StrId × Bool). nat_eq y.1.0 z.1.0)) (sym (own-none (form_of x))) none-distinct;
}

small-in : (d : Data) → 0 < length d.texts → ScriptIn d (record { nodes = nodes; names = [] })
small-in d h = record {
  nodes_in = all-of (λ (x : Shape). Maybe (TextIn d) x.label.name) nodes (h, (h, (tt, (tt, tt))));
  names_in = All-nil (λ (x : NodeId × StrId × Bool). TextIn d x.1);
}

pub returns-clause-program : goal.returns-clause-program
returns-clause-program g c =
    let e = rw c.expect-scopes.ensures at c.new-2.ensures in
    rw (c.small_tree-tree.ensures first refl, e, c.new.ensures.items) small

pub returns-clause-names : goal.returns-clause-names
returns-clause-names g c d h =
    let e = rw c.expect-scopes.ensures at c.new-2.ensures in
    rw (c.small_tree-tree.ensures first refl, e, c.new.ensures.items) (small-in d h)
