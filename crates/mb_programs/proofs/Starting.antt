-- What was read is what a run asks for.
use Rattle.mb_base.specs.declared.value.NodeId.{NodeId}
use Rattle.mb_base.specs.declared.value.StrId.{StrId}
use Rattle.mb_frames.specs.Grammatical.{IsOfNodeSort, IsProgram}
use Rattle.mb_frames.specs.Kinds.{NodeSort, Statement}
use Rattle.mb_grammar.proofs.Forms.{tree_has_forms}
use Rattle.mb_grammar.specs.Script.{IsTreeOfGrammar, script_of}
use Rattle.mb_programs.proofs.Fitting.{statements-fit}
use Rattle.mb_programs.proofs.Holding.{AreIn, read-in}
use Rattle.mb_programs.proofs.Named.{names-named}
use Rattle.mb_programs.proofs.Names.{names-apart}
use Rattle.mb_programs.proofs.Placing.{Fits, fit, placed-all}
use Rattle.mb_programs.proofs.Sorts.{statements-sorts}
use Rattle.mb_programs.proofs.Written.{IsGood, all-good, at-end, grammatical}
use Rattle.mb_programs.specs.Read.{CanStart, HasWhole, WasRead, forms_of}
use Rattle.mb_scope.specs.Names.{names_of}
use Rattle.mb_text.proofs.Kept.{keeps_ids_more}
use Rattle.mb_text.specs.Texts.{KeepsIds}
use Rattle.mb_tree.specs.Form.{ScriptForm as ScriptNode}
use Rattle.mb_tree.specs.Names.{Binds}
use Rattle.mb_tree.specs.Roses.{Rose, Roses, Shape, bare, roots, shape, write, write_all}
use Rattle.mb_tree.specs.declared.kind.Kind.TheVariants as k
use Rattle.mb_world.specs.Data.{Data, Script, fresh, with_texts}
use Rattle.mb_world.specs.Form.{ScriptForm}
use Rattle.mb_world.specs.FormOf.{TreeNode, form_of}
use Rattle.mb_world.specs.Ids.{Maybe, ScriptIn, TextIn}
use Rattle.mb_world.specs.Image.{node_in, nodes_in}
use Rattle.std.proofs.Common.{List, None, Option, Some, [], ap, arith, length, length-append, map, option_map}
use Rattle.std.proofs.Common.{slice_get, subst, sym, ℕ, ◌++◌, ◌-◌, ◌<◌, ◌≤◌, ◌∙◌, ◌∷◌, ◌≡◌}
use Rattle.std.proofs.lemmas.List.{length-map}
use Rattle.std.proofs.lemmas.List.Elements.{All-weaker}
use Rattle.std.proofs.lemmas.Option.{slice_get-map}
use Rattle.std.specs.Prelude.{All}

module _ (texts : List (List ℕ)) (p : Script) (w : WasRead texts p) where
  abbrev n : ℕ
  n = length w.own_texts

  abbrev P : NodeSort → NodeId → Type 0
  P = IsOfNodeSort p.nodes

  abbrev parts : Roses
  parts = w.script.parts

  held : AreIn n w.tokens
  held = read-in w.own_texts w.bytes w.tokens w.lexemes w.has w.seen

  script-fits : Fits P n (script_of parts)
  script-fits = (
    (
      tt,
      λ out q f e. fit P (ScriptNode (roots out parts)) f e
          (placed-all P Statement (roots out parts) parts (statements-sorts w.script.stand) q),
    ),
    statements-fit P n held w.script.stand,
  )

  good : All (IsGood n p.nodes) p.nodes
  good =
      all-good n p.nodes w.few w.tree w.nodes_are
      (subst (λ (r : Rose). Fits P n r) (sym w.script.whole) script-fits)

  tree : IsTreeOfGrammar p.nodes
  tree = record { tokens = w.tokens; script = w.tree; is = w.script; nodes_are = w.nodes_are }

  program : IsProgram p
  program = record {
    nodes = grammatical n p.nodes w.few tree good;
    distinct = λ node x is. names-apart p w.right w.names_are node x is (tree_has_forms p.nodes tree node.0 x is);
  }

  -- ---- ids

  abbrev d : Data
  d = with_texts fresh texts

  more-texts : n ≤ length texts
  more-texts = omega (arith, ap (λ (ts : List (List ℕ)). length ts) w.stays.1, length-append w.own_texts w.stays.0)

  abbrev IsOwn : StrId → Type 0
  IsOwn id = id.0 < n

  maybe-in : (o : Option StrId) → Maybe IsOwn o → Maybe (TextIn d) o
  maybe-in None h = tt
  maybe-in (Some id) h = omega (arith, more-texts, h)

  ids : ScriptIn d p
  ids = record {
    nodes_in = All-weaker (IsGood n p.nodes) (λ (x : Shape). Maybe (TextIn d) x.label.name)
        (λ x g. maybe-in x.label.name g.name) p.nodes good;
    names_in = subst (λ (xs : List Binds). All (λ (x : Binds). TextIn d x.1) xs) (sym w.names_are)
        (All-weaker (λ (x : Binds). x.1.0 < n) (λ (x : Binds). TextIn d x.1)
        (λ x h. omega (arith, more-texts, h)) (names_of p.nodes) (names-named n p.nodes named 0 p.nodes named));
  }
    where
      named : All (λ (x : Shape). Maybe IsOwn x.label.name) p.nodes
      named = All-weaker (IsGood n p.nodes) (λ (x : Shape). Maybe IsOwn x.label.name) (λ x g. g.name) p.nodes good

  -- ---- the whole script

  abbrev before : List Shape
  before = write_all [] parts

  abbrev own : Shape
  own = shape (bare k.Script) (roots [] parts)

  nodes-are : p.nodes ≡ before ++ own ∷ []
  nodes-are = w.nodes_are ∙ ap (λ (r : Rose). write [] r) w.script.whole

  abbrev told : List TreeNode
  told = nodes_in texts p.nodes

  many : length (forms_of texts p) ≡ length p.nodes
  many = length-map told (form_of told) ∙ length-map p.nodes (node_in texts)

  place : length (forms_of texts p) - 1 ≡ length before
  place =
      omega (arith, many, ap (λ (ns : List Shape). length ns) nodes-are, length-append before (own ∷ []))

  there : slice_get p.nodes (length before) ≡ Some own
  there = ap (λ (ns : List Shape). slice_get ns (length before)) nodes-are ∙ at-end before own []

  last : slice_get (forms_of texts p) (length before) ≡ Some (ScriptForm (map (λ id. id.0) (roots [] parts)))
  last =
      slice_get-map (form_of told) told (length before)
      ∙ ap (λ (o : Option TreeNode). option_map (form_of told) o)
      (slice_get-map (node_in texts) p.nodes (length before)
      ∙ ap (λ (o : Option Shape). option_map (node_in texts) o) there)

  whole : HasWhole (forms_of texts p)
  whole = record {
    statements = map (λ id. id.0) (roots [] parts);
    last = ap (λ (m : ℕ). slice_get (forms_of texts p) m) place ∙ last;
    few = omega (arith, many, w.few);
  }

  pub can-start : CanStart texts p
  can-start = record { program = program; whole = whole; ids = ids }

-- more texts may come
pub read-later : (a b : List (List ℕ)) (p : Script) → WasRead a p → KeepsIds a b → WasRead b p
read-later a b p w more = record {
  bytes = w.bytes;
  lexemes = w.lexemes;
  tokens = w.tokens;
  tree = w.tree;
  own_texts = w.own_texts;
  has = w.has;
  seen = w.seen;
  stays = keeps_ids_more w.own_texts a b w.stays more;
  script = w.script;
  nodes_are = w.nodes_are;
  names_are = w.names_are;
  right = w.right;
  few = w.few;
}
