-- The program of a script's bytes is one thing, whatever ids its texts have.
use Rattle.std.proofs.Common.{Bool, List, None, Option, Some, [], ap, ap₂, arith, false, map, option_map, refl, slice_get, subst, suc, sym, true, ℕ, ◌++◌, ◌∙◌, ◌∷◌, ◌≡◌}
use Rattle.std.proofs.lemmas.List.{map-append}
use Rattle.std.proofs.lemmas.Option.{get_or_from_slice_get}
use Rattle.std.specs.Cmp.Lexicographic.{bytes_decides}
use Rattle.std.specs.Str.{bytes_eq as same_text}
use Rattle.mb_base.specs.declared.value.NodeId.{NodeId}
use Rattle.mb_base.specs.declared.value.StrId.{StrId}
use Rattle.mb_cli.proofs.OneAnswer.{script_renamed, tree_over}
use Rattle.mb_cli.proofs.RulesRenamed.{bindings_renamed, renamed_binding}
use Rattle.mb_cli.proofs.Tables.{moved, moved_to}
use Rattle.mb_grammar.proofs.Renamed.{write_renamed}
use Rattle.mb_grammar.specs.Renaming.{renamed, renamed_name, renamed_shape, renamed_spanned, renamed_token, renamed_tokens}
use Rattle.mb_grammar.specs.Script.{IsScript}
use Rattle.mb_lexer.proofs.Lawful.{one_list}
use Rattle.mb_lexer.specs.Reading.{Lexeme}
use Rattle.mb_lexer.specs.Shown.{AreSeen, IsSeen, Shows}
use Rattle.mb_lexer.specs.Tokens.{Content, mark, name, reserved, soft, text, whole}
use Rattle.mb_load_tree.specs.Trees.{AreTokens, Parses}
use Rattle.mb_parse_stmt.proofs.Once.{one_script}
use Rattle.mb_scope.specs.Bindings.{bindings_of}
use Rattle.mb_scope.specs.Kinds.{names_itself}
use Rattle.mb_scope.specs.Names.{entry, itself, names_from, names_of, own_name, scope_names}
use Rattle.mb_scope.specs.declared.binding.Binding.{Binding}
use Rattle.mb_text.specs.Texts.{AreDistinct, text_at}
use Rattle.mb_token.specs.declared.mark.Mark.{Mark}
use Rattle.mb_token.specs.declared.word.Soft.{Soft}
use Rattle.mb_token.specs.declared.token.Spanned.{Spanned}
use Rattle.mb_token.specs.declared.token.Token.{Token}
use Rattle.mb_token.specs.declared.token.Token.TheVariants as t
use Rattle.mb_token.specs.declared.word.Word.{Word}
use Rattle.mb_tree.specs.Names.{Binds}
use Rattle.mb_tree.specs.Roses.{Rose, Shape, id_of, write}
use Rattle.mb_world.specs.FormOf.{TreeNode, form_of}
use Rattle.mb_world.specs.Graph.{Program, ScopeName}
use Rattle.mb_world.specs.Image.{name_in, node_in, nodes_in, program_in}

-- ---- the names of scopes under other ids

abbrev renamed_entry : (StrId → StrId) → Binds → Binds
renamed_entry f x = (x.0, f x.1, x.2)

module _ (f : StrId → StrId) where
  itself_renamed : (scope : NodeId) (own : Bool) (o : Option StrId)
      → itself scope own (renamed_name f o) ≡ map (renamed_entry f) (itself scope own o)
  itself_renamed scope true (Some x) = refl
  itself_renamed scope true None = refl
  itself_renamed scope false (Some x) = refl
  itself_renamed scope false None = refl

  entries_renamed : (scope : NodeId) (bs : List Binding)
      → map (entry scope) (map (renamed_binding f) bs) ≡ map (renamed_entry f) (map (entry scope) bs)
  entries_renamed scope [] = refl
  entries_renamed scope (b ∷ bs) = ap (λ (z : List Binds). (scope, f b.name, b.fixed) ∷ z) (entries_renamed scope bs)

  scope_renamed : (shapes : List Shape) (scope : NodeId) (x : Shape)
      → scope_names (map (renamed_shape f) shapes) scope (renamed_shape f x)
      ≡ map (renamed_entry f) (scope_names shapes scope x)
  scope_renamed shapes scope x =
      ap₂ (λ (a b : List Binds). a ++ b) (itself_renamed scope (names_itself x.label.kind) x.label.name)
      (ap (map (entry scope)) (bindings_renamed f shapes x.children)
      ∙ entries_renamed scope (bindings_of shapes x.children))
      ∙ sym (map-append (renamed_entry f) (own_name scope x) (map (entry scope) (bindings_of shapes x.children)))

  from_renamed : (shapes : List Shape) (place : ℕ) (xs : List Shape)
      → names_from (map (renamed_shape f) shapes) place (map (renamed_shape f) xs)
      ≡ map (renamed_entry f) (names_from shapes place xs)
  from_renamed shapes place [] = refl
  from_renamed shapes place (x ∷ xs) =
      ap₂ (λ (a b : List Binds). a ++ b) (scope_renamed shapes (id_of place) x) (from_renamed shapes (suc place) xs)
      ∙ sym (map-append (renamed_entry f) (scope_names shapes (id_of place) x) (names_from shapes (suc place) xs))

  names_renamed : (xs : List Shape) → names_of (map (renamed_shape f) xs) ≡ map (renamed_entry f) (names_of xs)
  names_renamed xs = from_renamed xs 0 xs

-- ---- ids whose texts two tables have

abbrev kept_if : Bool → StrId → StrId
kept_if true i = i
kept_if false i = record { 0 = suc i.0 }

module _ (A B : List (List ℕ)) where
  -- the id itself where the other table has its text under the id that it is moved to, else the next one
  abbrev tested : StrId → StrId
  tested i = kept_if (same_text (text_at B (moved A B i)) (text_at A i)) i

  text_stays : (i : StrId) → tested i ≡ i → text_at A i ≡ text_at B (moved A B i)
  text_stays i e = by (same_text (text_at B (moved A B i)) (text_at A i)) refl e
    where
      by : (b : Bool) → same_text (text_at B (moved A B i)) (text_at A i) ≡ b → kept_if b i ≡ i
          → text_at A i ≡ text_at B (moved A B i)
      by true s e = sym ((bytes_decides (text_at B (moved A B i)) (text_at A i)).0 s)
      by false s e = let bad : suc i.0 ≡ i.0 = ap (λ (x : StrId). x.0) e in absurd (omega (arith, bad))

  module _ (distinct : AreDistinct B) where
    kept : (i j : StrId) (us : List ℕ) → slice_get A i.0 ≡ Some us → slice_get B j.0 ≡ Some us → tested i ≡ i
    kept i j us here there =
        let x : text_at A i ≡ us = get_or_from_slice_get A i.0 us [] here in
        let y : text_at B j ≡ us = get_or_from_slice_get B j.0 us [] there in
        let same : text_at B (moved A B i) ≡ text_at A i =
        ap (text_at B) (moved_to A B i j us distinct here there) ∙ y ∙ sym x in
        ap (λ (b : Bool). kept_if b i) ((bytes_decides (text_at B (moved A B i)) (text_at A i)).1 same)

    -- ---- a token that both show keeps its id

    of_name : (a b : Token) (us : List ℕ) → Shows A a (name us) → Shows B b (name us) → renamed_token tested a ≡ a
    of_name (t.Name i) (t.Name j) us p q = ap t.Name (kept i j us p q)
    of_name (t.Name i) b us p q = absurd q
    of_name a b us p q = absurd p

    of_text : (a b : Token) (us : List ℕ) → Shows A a (text us) → Shows B b (text us) → renamed_token tested a ≡ a
    of_text (t.Text i) (t.Text j) us p q = ap t.Text (kept i j us p q)
    of_text (t.Text i) b us p q = absurd q
    of_text a b us p q = absurd p

    of_soft : (a b : Token) (s : Soft) (us : List ℕ) → Shows A a (soft s us) → Shows B b (soft s us)
        → renamed_token tested a ≡ a
    of_soft (t.Soft x i) (t.Soft y j) s us p q = ap (t.Soft x) (kept i j us p.1 q.1)
    of_soft (t.Soft x i) b s us p q = absurd q
    of_soft a b s us p q = absurd p

    of_word : (a b : Token) (w : Word) (us : List ℕ) → Shows A a (reserved w us) → Shows B b (reserved w us)
        → renamed_token tested a ≡ a
    of_word (t.Reserved x i) (t.Reserved y j) w us p q = ap (t.Reserved x) (kept i j us p.1 q.1)
    of_word (t.Reserved x i) b w us p q = absurd q
    of_word a b w us p q = absurd p

    of_whole : (a b : Token) (n : ℕ) → Shows A a (whole n) → renamed_token tested a ≡ a
    of_whole (t.Whole x) b n p = refl
    of_whole a b n p = absurd p

    of_mark : (a b : Token) (k : Mark) → Shows A a (mark k) → renamed_token tested a ≡ a
    of_mark (t.Mark x) b k p = refl
    of_mark a b k p = absurd p

    token_kept : (a b : Token) (c : Content) → Shows A a c → Shows B b c → renamed_token tested a ≡ a
    token_kept a b (name us) p q = of_name a b us p q
    token_kept a b (soft s us) p q = of_soft a b s us p q
    token_kept a b (reserved w us) p q = of_word a b w us p q
    token_kept a b (whole n) p q = of_whole a b n p
    token_kept a b (text us) p q = of_text a b us p q
    token_kept a b (mark k) p q = of_mark a b k p

    spanned_kept : (a b : Spanned) (l : Lexeme) → IsSeen A a l → IsSeen B b l → renamed_spanned tested a ≡ a
    spanned_kept a b l p q =
        ap (λ (x : Token). let s : Spanned = record { token = x; from = a.from; to = a.to; after_line = a.after_line } in s)
        (token_kept a.token b.token l.content p.token q.token)

    tokens_kept : (xs ys : List Spanned) (ls : List Lexeme) → AreSeen A xs ls → AreSeen B ys ls
        → renamed_tokens tested xs ≡ xs
    tokens_kept [] [] [] p q = refl
    tokens_kept (x ∷ xs) (y ∷ ys) (l ∷ ls) p q =
        ap₂ (λ (z : Spanned) (zs : List Spanned). z ∷ zs) (spanned_kept x y l p.0 q.0) (tokens_kept xs ys ls p.1 q.1)
    tokens_kept [] (y ∷ ys) [] p q = absurd q
    tokens_kept [] ys (l ∷ ls) p q = absurd p
    tokens_kept (x ∷ xs) ys [] p q = absurd p
    tokens_kept (x ∷ xs) [] (l ∷ ls) p q = absurd q

  -- ---- so do the nodes of the tree

  tree_kept : (bytes : List ℕ) (a : Rose) (us : List Spanned) → Parses A bytes a → AreTokens B bytes us
      → renamed tested a ≡ a
  tree_kept bytes a us p q =
      let seen : AreSeen A p.tokens q.lexemes =
      subst (AreSeen A p.tokens) (one_list bytes p.are.lexemes q.lexemes p.are.has q.has) p.are.seen in
      one_script p.tokens (renamed tested a) a
      (subst (λ (ts : List Spanned). IsScript ts (renamed tested a)) (tokens_kept q.distinct p.tokens us q.lexemes seen q.seen)
      (script_renamed tested p.tokens a p.script)) p.script

  -- ---- what has kept its ids stands for the same over the other table

  name_same : (o : Option StrId) → renamed_name tested o ≡ o
      → option_map (text_at B) (renamed_name (moved A B) o) ≡ option_map (text_at A) o
  name_same None e = refl
  name_same (Some i) e = let h : tested i ≡ i = cc in ap Some (sym (text_stays i h))

  node_same : (x : Shape) → renamed_shape tested x ≡ x → node_in B (renamed_shape (moved A B) x) ≡ node_in A x
  node_same x e =
      ap (λ (o : Option (List ℕ)). let n : TreeNode = record {
        kind = x.label.kind;
        name = o;
        whole = x.label.whole;
        children = map (λ id. id.0) x.children;
      } in n) (name_same x.label.name (ap (λ (s : Shape). s.label.name) e))

  nodes_same : (xs : List Shape) → map (renamed_shape tested) xs ≡ xs
      → nodes_in B (map (renamed_shape (moved A B)) xs) ≡ nodes_in A xs
  nodes_same [] e = refl
  nodes_same (x ∷ xs) e =
      let h : renamed_shape tested x ≡ x = cc in
      let r : map (renamed_shape tested) xs ≡ xs = cc in
      ap₂ (λ (z : TreeNode) (zs : List TreeNode). z ∷ zs) (node_same x h) (nodes_same xs r)

  bind_same : (x : Binds) → renamed_entry tested x ≡ x → name_in B (renamed_entry (moved A B) x) ≡ name_in A x
  bind_same x e =
      ap (λ (us : List ℕ). let n : ScopeName = record { node = x.0.0; name = us; fixed = x.2 } in n)
      (sym (text_stays x.1 (ap (λ (z : Binds). z.1) e)))

  binds_same : (xs : List Binds) → map (renamed_entry tested) xs ≡ xs
      → map (name_in B) (map (renamed_entry (moved A B)) xs) ≡ map (name_in A) xs
  binds_same [] e = refl
  binds_same (x ∷ xs) e =
      let h : renamed_entry tested x ≡ x = cc in
      let r : map (renamed_entry tested) xs ≡ xs = cc in
      ap₂ (λ (z : ScopeName) (zs : List ScopeName). z ∷ zs) (bind_same x h) (binds_same xs r)

  -- bytes have one program, by the trees that they have over two tables
  pub one_program : (bytes : List ℕ) (a b : Rose) → Parses A bytes a → Parses B bytes b
      → program_in A (Some (record { nodes = write [] a; names = names_of (write [] a) }))
      ≡ program_in B (Some (record { nodes = write [] b; names = names_of (write [] b) }))
  one_program bytes a b p q =
      let xs : List Shape = write [] a in
      let ys : List Shape = write [] b in
      let to : map (renamed_shape (moved A B)) xs ≡ ys =
      sym (write_renamed (moved A B) [] a) ∙ ap (write []) (tree_over bytes A B a b p q) in
      let stay : map (renamed_shape tested) xs ≡ xs =
      sym (write_renamed tested [] a) ∙ ap (write []) (tree_kept bytes a q.tokens p q.are) in
      let nodes : nodes_in A xs ≡ nodes_in B ys = sym (nodes_same xs stay) ∙ ap (nodes_in B) to in
      let names : map (name_in A) (names_of xs) ≡ map (name_in B) (names_of ys) =
      sym (binds_same (names_of xs) (sym (names_renamed tested xs) ∙ ap names_of stay))
      ∙ ap (map (name_in B)) (sym (names_renamed (moved A B) xs) ∙ ap names_of to) in
      ap₂ (λ (ns : List TreeNode) (bs : List ScopeName).
      let g : Program = record { forms = map (form_of ns) ns; names = bs } in g) nodes names
