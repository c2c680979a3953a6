-- The grammar under other ids: where the tokens are renamed, the renamed tree stands.
use Rattle.std.proofs.Common.{◌≡◌, ℕ, suc, ◌+◌, Bool, true, false, List, [], ◌∷◌, ◌++◌, length, Option, Some, None, refl, sym, ap, ap₂, subst, ◌∙◌}
use Rattle.std.specs.Prelude.{slice_get, map, max}
use Rattle.std.specs.Option.{option_map}
use Rattle.std.proofs.lemmas.Option.{slice_get-map}
use Rattle.std.proofs.lemmas.List.{length-map, map-append}
use Rattle.mb_base.specs.declared.value.StrId.{StrId}
use Rattle.mb_token.specs.declared.token.Token.{Token}
use Rattle.mb_token.specs.declared.token.Token.TheVariants as t
use Rattle.mb_token.specs.declared.token.Spanned.{Spanned}
use Rattle.mb_token.specs.declared.mark.Mark.{Mark}
use Rattle.mb_token.specs.declared.mark.Mark.TheVariants as m
use Rattle.mb_token.specs.declared.word.Word.{Word}
use Rattle.mb_token.specs.declared.word.Word.TheVariants as w
use Rattle.mb_tree.specs.declared.kind.Kind.{Kind}
use Rattle.mb_tree.specs.declared.kind.Kind.TheVariants as k
use Rattle.mb_tree.specs.Roses.{Rose, Roses, node, none, more, bare, named, Shape, shape, id_of, write, write_all, root, roots, size, join}
use Rattle.mb_tree.specs.Heights.{height_of, most_of}
use Rattle.mb_grammar.specs.declared.role.Role.{Role}
use Rattle.mb_grammar.specs.declared.role.Role.TheVariants as r
use Rattle.mb_grammar.specs.declared.function.Property.{Property}
use Rattle.mb_grammar.specs.declared.function.Maker.{Maker}
use Rattle.mb_grammar.specs.declared.function.Maker.TheVariants as mk
use Rattle.mb_grammar.specs.Tokens.{word_role, mark_role, role_of, token_of, line_of, token_at, role_at, after_line_at, RoleAt, NoRoleAt, SameLine, TokenAt, WordAt}
use Rattle.mb_grammar.specs.Labels.{value_label, made_label, IsFunction, IsProperty}
use Rattle.mb_grammar.specs.Parts.{WordText, name, soft, reserved, GetAt, SetAt, Names, last_name, name_and, Params, no_params, params, params_comma, MakerParams, of_function, of_method, of_getter, of_setter, Head, one, many}
use Rattle.mb_grammar.specs.Grammar.{Stands, lift, left_new, left_call, new_member, seq, assign, compound, arrow_value, arrow_block, cond, or, and_also, binary, unary, negative, before, behind, new_new, new_args, member, index, call, this, name_of, number, text, literal, array, object, function, group, Listed, last_of, then_of, Elements, nothing, elements, elements_comma, KeyOf, key_word, key_text, key_number, key_computed, Before, unnamed, with_name, method, getter, setter, Made, made, PropertyOf, valued, shorthand, maker_of, PropertyList, last_property, then_property, Properties, no_property, properties, properties_comma, Declarations, last_declared, then_declared, Declared, declared, declared_as, Lets, lets, BlockOf, block, Perhaps, absent, present, ForFirst, first_lets, first_expression, Caught, no_catch, catch_all, catch_named, Finally, no_finally, finally, Sub, sub_block, empty, expression, if_then, if_else, while_do, do_while, for_loop, returns, returns_with, throw, break, continue, try, Statement, sub, let_statement, const, declaration, Statements, finished, statement}
use Rattle.mb_grammar.specs.Renaming.{renamed_name, renamed_token, renamed_spanned, renamed_tokens, renamed_label, renamed, renamed_all, renamed_shape}

-- trees

pub join_renamed : (f : StrId → StrId) (a b : Roses) → renamed_all f (join a b) ≡ join (renamed_all f a) (renamed_all f b)
join_renamed f none b = refl
join_renamed f (more part parts) b = ap (more (renamed f part)) (join_renamed f parts b)

pub size_renamed : (f : StrId → StrId) (a : Roses) → size (renamed_all f a) ≡ size a
size_renamed f none = refl
size_renamed f (more part parts) = ap suc (size_renamed f parts)

mutual
  pub height_renamed : (f : StrId → StrId) (a : Rose) → height_of (renamed f a) ≡ height_of a
  height_renamed f (node label parts) = ap suc (most_renamed f parts)

  most_renamed : (f : StrId → StrId) (parts : Roses) → most_of (renamed_all f parts) ≡ most_of parts
  most_renamed f none = refl
  most_renamed f (more part parts) = ap₂ max (height_renamed f part) (most_renamed f parts)

-- the flat nodes of a renamed tree, behind renamed ones
mutual
  pub write_renamed : (f : StrId → StrId) (out : List Shape) (a : Rose) → write (map (renamed_shape f) out) (renamed f a) ≡ map (renamed_shape f) (write out a)
  write_renamed f out (node label parts) =
      ap₂ (λ x y. x ++ shape (renamed_label f label) y ∷ []) (write_all_renamed f out parts) (roots_renamed f out parts)
      ∙ sym (map-append (renamed_shape f) (write_all out parts) (shape label (roots out parts) ∷ []))

  pub write_all_renamed : (f : StrId → StrId) (out : List Shape) (parts : Roses) → write_all (map (renamed_shape f) out) (renamed_all f parts) ≡ map (renamed_shape f) (write_all out parts)
  write_all_renamed f out none = refl
  write_all_renamed f out (more part parts) =
      ap (λ x. write_all x (renamed_all f parts)) (write_renamed f out part) ∙ write_all_renamed f (write out part) parts

  pub roots_renamed : (f : StrId → StrId) (out : List Shape) (parts : Roses) → roots (map (renamed_shape f) out) (renamed_all f parts) ≡ roots out parts
  roots_renamed f out none = refl
  roots_renamed f out (more part parts) =
      ap₂ (λ x y. id_of x ∷ y) (root_renamed f out part) (ap (λ x. roots x (renamed_all f parts)) (write_renamed f out part) ∙ roots_renamed f (write out part) parts)

  root_renamed : (f : StrId → StrId) (out : List Shape) (a : Rose) → root (map (renamed_shape f) out) (renamed f a) ≡ root out a
  root_renamed f out (node label parts) = ap length (write_all_renamed f out parts) ∙ length-map (write_all out parts) (renamed_shape f)

-- tokens

abbrev renamed_role : (StrId → StrId) → Role → Role
renamed_role f (r.Name n) = r.Name (f n)
renamed_role f (r.Text n) = r.Text (f n)
renamed_role f role = role

word_same : (f : StrId → StrId) (word : Word) → word_role word ≡ renamed_role f (word_role word)
word_same f w.This = refl
word_same f w.True = refl
word_same f w.False = refl
word_same f w.Null = refl
word_same f w.Undefined = refl
word_same f w.Function = refl
word_same f w.New = refl
word_same f w.Typeof = refl
word_same f w.Delete = refl
word_same f w.In = refl
word_same f w.Instanceof = refl
word_same f _ = refl

mark_same : (f : StrId → StrId) (mark : Mark) → mark_role mark ≡ renamed_role f (mark_role mark)
mark_same f m.Plus = refl
mark_same f _ = refl

role_renamed : (f : StrId → StrId) (o : Option Token) → role_of (option_map (renamed_token f) o) ≡ renamed_role f (role_of o)
role_renamed f None = refl
role_renamed f (Some (t.Name n)) = refl
role_renamed f (Some (t.Soft o n)) = refl
role_renamed f (Some (t.Reserved word n)) = word_same f word
role_renamed f (Some (t.Whole z)) = refl
role_renamed f (Some (t.Text n)) = refl
role_renamed f (Some (t.Mark mark)) = mark_same f mark

token_of_renamed : (f : StrId → StrId) (o : Option Spanned) → token_of (option_map (renamed_spanned f) o) ≡ option_map (renamed_token f) (token_of o)
token_of_renamed f None = refl
token_of_renamed f (Some s) = refl

line_of_renamed : (f : StrId → StrId) (o : Option Spanned) → line_of (option_map (renamed_spanned f) o) ≡ line_of o
line_of_renamed f None = refl
line_of_renamed f (Some s) = refl

plain_back : (f : StrId → StrId) (role : Role) → renamed_role f role ≡ r.OpenBrace → role ≡ r.OpenBrace
plain_back f (r.Name n) e = cc
plain_back f (r.Text n) e = cc
plain_back f _ e = e

function_back : (f : StrId → StrId) (role : Role) → renamed_role f role ≡ r.Function → role ≡ r.Function
function_back f (r.Name n) e = cc
function_back f (r.Text n) e = cc
function_back f _ e = e

word_back : (f : StrId → StrId) (o : Option Token) (word : Word) (n : StrId) → option_map (renamed_token f) o ≡ Some (t.Reserved word n) → (m : StrId) × (o ≡ Some (t.Reserved word m))
word_back f None word n e = cc
word_back f (Some (t.Name x)) word n e = cc
word_back f (Some (t.Soft o x)) word n e = cc
word_back f (Some (t.Reserved v x)) word n e = (x, ap (λ u. Some (t.Reserved u x)) (let q : v ≡ word = cc in q))
word_back f (Some (t.Whole z)) word n e = cc
word_back f (Some (t.Text x)) word n e = cc
word_back f (Some (t.Mark mark)) word n e = cc

text_renamed : (f : StrId → StrId) {o : Option Token} {n : StrId} → WordText o n → WordText (option_map (renamed_token f) o) (f n)
text_renamed f name = name
text_renamed f soft = soft
text_renamed f reserved = reserved

abbrev renamed_property : (StrId → StrId) → Property → Property
renamed_property f p = record { key = p.key; name = renamed_name f p.name; whole = p.whole }

abbrev renamed_maker : (StrId → StrId) → Maker → Maker
renamed_maker f mk.Arrow = mk.Arrow
renamed_maker f (mk.Function n) = mk.Function (renamed_name f n)
renamed_maker f (mk.Method p) = mk.Method (renamed_property f p)
renamed_maker f (mk.Getter p) = mk.Getter (renamed_property f p)
renamed_maker f (mk.Setter p) = mk.Setter (renamed_property f p)

made_renamed : (f : StrId → StrId) (maker : Maker) (n : ℕ) → (made_label (renamed_maker f maker) n) ≡ renamed_label f (made_label maker n)
made_renamed f mk.Arrow n = refl
made_renamed f (mk.Function x) n = refl
made_renamed f (mk.Method p) n = refl
made_renamed f (mk.Getter p) n = refl
made_renamed f (mk.Setter p) n = refl

function_renamed : (f : StrId → StrId) (maker : Maker) → IsFunction maker → IsFunction (renamed_maker f maker)
function_renamed f (mk.Function x) h = h
function_renamed f mk.Arrow h = h
function_renamed f (mk.Method p) h = h
function_renamed f (mk.Getter p) h = h
function_renamed f (mk.Setter p) h = h

property_renamed : (f : StrId → StrId) (maker : Maker) → IsProperty maker → IsProperty (renamed_maker f maker)
property_renamed f (mk.Function x) h = h
property_renamed f mk.Arrow h = h
property_renamed f (mk.Method p) h = h
property_renamed f (mk.Getter p) h = h
property_renamed f (mk.Setter p) h = h

-- a node of parts that are joined
stands_joined : {us : List Spanned} {l : ℕ} {ds es : List ℕ} {i j : ℕ} (kind : ℕ → Kind) (n n' : ℕ) (a a' : Roses) → n ≡ n' → a ≡ a' → Stands us l (node (bare (kind n)) a) ds es i j → Stands us l (node (bare (kind n')) a') ds es i j
stands_joined {us = us} {l = l} {ds = ds} {es = es} {i = i} {j = j} kind n n' a a' e h q =
    subst (λ x. Stands us l (node (bare (kind n')) x) ds es i j) h (subst (λ x. Stands us l (node (bare (kind x)) a) ds es i j) e q)

module _ (f : StrId → StrId) (ts : List Spanned) where
  token_at_renamed : (i : ℕ) → token_at (renamed_tokens f ts) i ≡ option_map (renamed_token f) (token_at ts i)
  token_at_renamed i = ap token_of (slice_get-map (renamed_spanned f) ts i) ∙ token_of_renamed f (slice_get ts i)

  role_at_renamed : (i : ℕ) → role_at (renamed_tokens f ts) i ≡ renamed_role f (role_at ts i)
  role_at_renamed i = ap role_of (token_at_renamed i) ∙ role_renamed f (token_at ts i)

  after_line_at_renamed : (i : ℕ) → after_line_at (renamed_tokens f ts) i ≡ after_line_at ts i
  after_line_at_renamed i = ap line_of (slice_get-map (renamed_spanned f) ts i) ∙ line_of_renamed f (slice_get ts i)

  role : {i : ℕ} {x : Role} → RoleAt ts i x → RoleAt (renamed_tokens f ts) i (renamed_role f x)
  role {i = i} h = record { is = role_at_renamed i ∙ ap (renamed_role f) h.is }

  line : {i : ℕ} → SameLine ts i → SameLine (renamed_tokens f ts) i
  line {i = i} h = record { is = after_line_at_renamed i ∙ h.is }

  token : {i : ℕ} {x : Token} → TokenAt ts i x → TokenAt (renamed_tokens f ts) i (renamed_token f x)
  token {i = i} h = record { is = token_at_renamed i ∙ ap (option_map (renamed_token f)) h.is }

  word : {i : ℕ} {x : Word} → WordAt ts i x → WordAt (renamed_tokens f ts) i x
  word {i = i} h = record { text = f h.text; is = token_at_renamed i ∙ ap (option_map (renamed_token f)) h.is }

  no_else : {i : ℕ} {x : Word} → (WordAt ts i x → ⊥) → WordAt (renamed_tokens f ts) i x → ⊥
  no_else {i = i} {x = x} h q = let back = word_back f (token_at ts i) x q.text (sym (token_at_renamed i) ∙ q.is) in h (record { text = back.0; is = back.1 })

  no_brace : {i : ℕ} → NoRoleAt ts i r.OpenBrace → NoRoleAt (renamed_tokens f ts) i r.OpenBrace
  no_brace {i = i} h = record { differs = λ e. h.differs (plain_back f (role_at ts i) (sym (role_at_renamed i) ∙ e)) }

  no_function : {i : ℕ} → NoRoleAt ts i r.Function → NoRoleAt (renamed_tokens f ts) i r.Function
  no_function {i = i} h = record { differs = λ e. h.differs (function_back f (role_at ts i) (sym (role_at_renamed i) ∙ e)) }

  word_text : (i : ℕ) {n : StrId} → WordText (token_at ts i) n → WordText (token_at (renamed_tokens f ts) i) (f n)
  word_text i {n = n} h = subst (λ o. WordText o (f n)) (sym (token_at_renamed i)) (text_renamed f h)

  get : {i : ℕ} → GetAt ts i → GetAt (renamed_tokens f ts) i
  get {i = i} h = record { text = f h.text; is = token_at_renamed i ∙ ap (option_map (renamed_token f)) h.is }

  set : {i : ℕ} → SetAt ts i → SetAt (renamed_tokens f ts) i
  set {i = i} h = record { text = f h.text; is = token_at_renamed i ∙ ap (option_map (renamed_token f)) h.is }

  -- parameters

  names : {parts : Roses} {i j : ℕ} → Names ts parts i j → Names (renamed_tokens f ts) (renamed_all f parts) i j
  names (last_name n) = last_name (role n)
  names (name_and n c q) = name_and (role n) (role c) (names q)

  params' : {parts : Roses} {i j : ℕ} → Params ts parts i j → Params (renamed_tokens f ts) (renamed_all f parts) i j
  params' no_params = no_params
  params' (params q) = params (names q)
  params' (params_comma q c) = params_comma (names q) (role c)

  maker_params : {maker : Maker} {parts : Roses} {i j : ℕ} → MakerParams ts maker parts i j → MakerParams (renamed_tokens f ts) (renamed_maker f maker) (renamed_all f parts) i j
  maker_params (of_function q) = of_function (params' q)
  maker_params (of_method q) = of_method (params' q)
  maker_params of_getter = of_getter
  maker_params (of_setter n) = of_setter (role n)

  head : {parts : Roses} {i j : ℕ} → Head ts parts i j → Head (renamed_tokens f ts) (renamed_all f parts) i j
  head (one n) = one (role n)
  head (many o q c) = many (role o) (params' q) (role c)

  mutual
    pub stands_renamed : {l : ℕ} {a : Rose} {ds es : List ℕ} {i j : ℕ} → Stands ts l a ds es i j → Stands (renamed_tokens f ts) l (renamed f a) ds es i j
    stands_renamed (lift h q) = lift h (stands_renamed q)
    stands_renamed (left_new q) = left_new (stands_renamed q)
    stands_renamed (left_call q) = left_call (stands_renamed q)
    stands_renamed (new_member q) = new_member (stands_renamed q)
    stands_renamed (seq a c q) = seq (stands_renamed a) (role c) (listed_renamed q)
    stands_renamed (assign a o b) = assign (stands_renamed a) (role o) (stands_renamed b)
    stands_renamed (compound a o b) = compound (stands_renamed a) (role o) (stands_renamed b)
    stands_renamed (arrow_value {parts = parts} {b = b} p o l u q) =
        stands_joined (λ n. k.Arrow n false) _ _ _ _ (size_renamed f parts) (sym (join_renamed f parts (more b none))) (arrow_value (head p) (role o) (line l) (no_brace u) (stands_renamed q))
    stands_renamed (arrow_block {parts = parts} {body = body} p o l u q c) =
        stands_joined (λ n. k.Arrow n true) _ _ _ _ (size_renamed f parts) (sym (join_renamed f parts body)) (arrow_block (head p) (role o) (line l) (role u) (statements_renamed q) (role c))
    stands_renamed (cond a o b p c) = cond (stands_renamed a) (role o) (stands_renamed b) (role p) (stands_renamed c)
    stands_renamed (or a o b) = or (stands_renamed a) (role o) (stands_renamed b)
    stands_renamed (and_also a o b) = and_also (stands_renamed a) (role o) (stands_renamed b)
    stands_renamed (binary a o b) = binary (stands_renamed a) (role o) (stands_renamed b)
    stands_renamed (unary o q) = unary (role o) (stands_renamed q)
    stands_renamed (negative o q) = negative (role o) (stands_renamed q)
    stands_renamed (before o q) = before (role o) (stands_renamed q)
    stands_renamed (behind q o l) = behind (stands_renamed q) (role o) (line l)
    stands_renamed (new_new o q) = new_new (role o) (stands_renamed q)
    stands_renamed (new_args n q o p c) = new_args (role n) (stands_renamed q) (role o) (elements_renamed p) (role c)
    stands_renamed (member {m = m} h q o n) = member h (stands_renamed q) (role o) (word_text (m + 1) n)
    stands_renamed (index h q o p c) = index h (stands_renamed q) (role o) (stands_renamed p) (role c)
    stands_renamed (call h q o p c) = call h (stands_renamed q) (role o) (elements_renamed p) (role c)
    stands_renamed (this o) = this (role o)
    stands_renamed (name_of o) = name_of (role o)
    stands_renamed (number o) = number (role o)
    stands_renamed (text o) = text (role o)
    stands_renamed (literal o) = literal (role o)
    stands_renamed (array o q c) = array (role o) (elements_renamed q) (role c)
    stands_renamed (object o q c) = object (role o) (properties_renamed q) (role c)
    stands_renamed (function {maker = maker} h q) = function (function_renamed f maker h) (made_of_renamed q)
    stands_renamed (group o q c) = group (role o) (stands_renamed q) (role c)

    listed_renamed : {parts : Roses} {ds es : List ℕ} {i j : ℕ} → Listed ts parts ds es i j → Listed (renamed_tokens f ts) (renamed_all f parts) ds es i j
    listed_renamed (last_of q) = last_of (stands_renamed q)
    listed_renamed (then_of q c p) = then_of (stands_renamed q) (role c) (listed_renamed p)

    elements_renamed : {parts : Roses} {ds es : List ℕ} {i j : ℕ} → Elements ts parts ds es i j → Elements (renamed_tokens f ts) (renamed_all f parts) ds es i j
    elements_renamed nothing = nothing
    elements_renamed (elements q) = elements (listed_renamed q)
    elements_renamed (elements_comma q c) = elements_comma (listed_renamed q) (role c)

    key_renamed : {p : Property} {keys : Roses} {ds es : List ℕ} {i j : ℕ} → KeyOf ts p keys ds es i j → KeyOf (renamed_tokens f ts) (renamed_property f p) (renamed_all f keys) ds es i j
    key_renamed (key_word {i = i} n) = key_word (word_text i n)
    key_renamed (key_text o) = key_text (token o)
    key_renamed (key_number o) = key_number (token o)
    key_renamed (key_computed o q c) = key_computed (role o) (stands_renamed q) (role c)

    before_renamed : {maker : Maker} {keys : Roses} {ds es : List ℕ} {i j : ℕ} → Before ts maker keys ds es i j → Before (renamed_tokens f ts) (renamed_maker f maker) (renamed_all f keys) ds es i j
    before_renamed (unnamed o) = unnamed (role o)
    before_renamed (with_name o n) = with_name (role o) (role n)
    before_renamed (method q) = method (key_renamed q)
    before_renamed (getter g q) = getter (get g) (key_renamed q)
    before_renamed (setter g q) = setter (set g) (key_renamed q)

    made_of_renamed : {maker : Maker} {a : Rose} {ds es : List ℕ} {i j : ℕ} → Made ts maker a ds es i j → Made (renamed_tokens f ts) (renamed_maker f maker) (renamed f a) ds es i j
    made_of_renamed (made {maker = maker} {keys = keys} {parts = parts} {body = body} {ds = ds} {es = es} {i = i} {n = n} {j = j} b o p c u q e) =
        subst (λ x. Made (renamed_tokens f ts) (renamed_maker f maker) x ds ((n + 1 + 1) ∷ es) i (j + 1))
        (ap₂ node (made_renamed f maker (size (renamed_all f parts)) ∙ ap (λ x. renamed_label f (made_label maker x)) (size_renamed f parts))
        (sym (join_renamed f keys (join parts body) ∙ ap (join (renamed_all f keys)) (join_renamed f parts body))))
        (made (before_renamed b) (role o) (maker_params p) (role c) (role u) (statements_renamed q) (role e))

    property_of_renamed : {a : Rose} {ds es : List ℕ} {i j : ℕ} → PropertyOf ts a ds es i j → PropertyOf (renamed_tokens f ts) (renamed f a) ds es i j
    property_of_renamed (valued {p = p} {keys = keys} {a = a} {ds = ds} {gs = gs} {i = i} {j = j} q c v) =
        subst (λ x. PropertyOf (renamed_tokens f ts) (node (value_label (renamed_property f p)) x) ds gs i j) (sym (join_renamed f keys (more a none))) (valued (key_renamed q) (role c) (stands_renamed v))
    property_of_renamed (shorthand n) = shorthand (role n)
    property_of_renamed (maker_of {maker = maker} h q) = maker_of (property_renamed f maker h) (made_of_renamed q)

    property_list_renamed : {parts : Roses} {ds es : List ℕ} {i j : ℕ} → PropertyList ts parts ds es i j → PropertyList (renamed_tokens f ts) (renamed_all f parts) ds es i j
    property_list_renamed (last_property q) = last_property (property_of_renamed q)
    property_list_renamed (then_property q c p) = then_property (property_of_renamed q) (role c) (property_list_renamed p)

    properties_renamed : {parts : Roses} {ds es : List ℕ} {i j : ℕ} → Properties ts parts ds es i j → Properties (renamed_tokens f ts) (renamed_all f parts) ds es i j
    properties_renamed no_property = no_property
    properties_renamed (properties q) = properties (property_list_renamed q)
    properties_renamed (properties_comma q c) = properties_comma (property_list_renamed q) (role c)

    declarations_renamed : {fixed : Bool} {parts : Roses} {i j : ℕ} → Declarations ts fixed parts i j → Declarations (renamed_tokens f ts) fixed (renamed_all f parts) i j
    declarations_renamed (last_declared q) = last_declared (declared_renamed q)
    declarations_renamed (then_declared q c p) = then_declared (declared_renamed q) (role c) (declarations_renamed p)

    declared_renamed : {fixed : Bool} {a : Rose} {i j : ℕ} → Declared ts fixed a i j → Declared (renamed_tokens f ts) fixed (renamed f a) i j
    declared_renamed (declared n) = declared (role n)
    declared_renamed (declared_as n o q) = declared_as (role n) (role o) (stands_renamed q)

    lets_renamed : {a : Rose} {i j : ℕ} → Lets ts a i j → Lets (renamed_tokens f ts) (renamed f a) i j
    lets_renamed (lets o q) = lets (word o) (declarations_renamed q)

    block_renamed : {a : Rose} {i j : ℕ} → BlockOf ts a i j → BlockOf (renamed_tokens f ts) (renamed f a) i j
    block_renamed (block o q c) = block (role o) (statements_renamed q) (role c)

    perhaps_renamed : {there : Bool} {parts : Roses} {i j : ℕ} → Perhaps ts there parts i j → Perhaps (renamed_tokens f ts) there (renamed_all f parts) i j
    perhaps_renamed absent = absent
    perhaps_renamed (present q) = present (stands_renamed q)

    first_renamed : {there : Bool} {parts : Roses} {i j : ℕ} → ForFirst ts there parts i j → ForFirst (renamed_tokens f ts) there (renamed_all f parts) i j
    first_renamed (first_lets q) = first_lets (lets_renamed q)
    first_renamed (first_expression q) = first_expression (perhaps_renamed q)

    caught_renamed : {caught has_name : Bool} {parts : Roses} {i j : ℕ} → Caught ts caught has_name parts i j → Caught (renamed_tokens f ts) caught has_name (renamed_all f parts) i j
    caught_renamed no_catch = no_catch
    caught_renamed (catch_all o q) = catch_all (word o) (block_renamed q)
    caught_renamed (catch_named o p n c q) = catch_named (word o) (role p) (role n) (role c) (block_renamed q)

    finally_renamed : {ended : Bool} {parts : Roses} {i j : ℕ} → Finally ts ended parts i j → Finally (renamed_tokens f ts) ended (renamed_all f parts) i j
    finally_renamed no_finally = no_finally
    finally_renamed (finally o q) = finally (word o) (block_renamed q)

    sub_renamed : {a : Rose} {i j : ℕ} → Sub ts a i j → Sub (renamed_tokens f ts) (renamed f a) i j
    sub_renamed (sub_block q) = sub_block (block_renamed q)
    sub_renamed (empty o) = empty (role o)
    sub_renamed (expression u v q c) = expression (no_brace u) (no_function v) (stands_renamed q) (role c)
    sub_renamed (if_then o p a c b u) = if_then (word o) (role p) (stands_renamed a) (role c) (sub_renamed b) (no_else u)
    sub_renamed (if_else o p a c b e d) = if_else (word o) (role p) (stands_renamed a) (role c) (sub_renamed b) (word e) (sub_renamed d)
    sub_renamed (while_do o p a c b) = while_do (word o) (role p) (stands_renamed a) (role c) (sub_renamed b)
    sub_renamed (do_while o b u p a c e) = do_while (word o) (sub_renamed b) (word u) (role p) (stands_renamed a) (role c) (role e)
    sub_renamed (for_loop {a = a} {b = b} {c = c} {x = x} {y = y} {z = z} {d = d} {i = i} {j = j} o p fx u fy v fz e q) =
        subst (λ parts. Sub (renamed_tokens f ts) (node (bare (k.For a b c)) parts) i j)
        (sym (join_renamed f x (join y (join z (more d none))) ∙ ap (join (renamed_all f x)) (join_renamed f y (join z (more d none)) ∙ ap (join (renamed_all f y)) (join_renamed f z (more d none)))))
        (for_loop (word o) (role p) (first_renamed fx) (role u) (perhaps_renamed fy) (role v) (perhaps_renamed fz) (role e) (sub_renamed q))
    sub_renamed (returns o c) = returns (word o) (role c)
    sub_renamed (returns_with o l q c) = returns_with (word o) (line l) (stands_renamed q) (role c)
    sub_renamed (throw o l q c) = throw (word o) (line l) (stands_renamed q) (role c)
    sub_renamed (break o c) = break (word o) (role c)
    sub_renamed (continue o c) = continue (word o) (role c)
    sub_renamed (try {b = b} {caught = caught} {has_name = has_name} {ended = ended} {x = x} {y = y} {i = i} {j = j} o q p e u) =
        subst (λ parts. Sub (renamed_tokens f ts) (node (bare (k.Try caught has_name ended)) (more (renamed f b) parts)) i j) (sym (join_renamed f x y))
        (try (word o) (block_renamed q) (caught_renamed p) (finally_renamed e) u)

    statement_renamed : {a : Rose} {i j : ℕ} → Statement ts a i j → Statement (renamed_tokens f ts) (renamed f a) i j
    statement_renamed (sub q) = sub (sub_renamed q)
    statement_renamed (let_statement q c) = let_statement (lets_renamed q) (role c)
    statement_renamed (const o q c) = const (word o) (declarations_renamed q) (role c)
    statement_renamed (declaration {n = n} {parts = parts} {body = body} {i = i} {j = j} o x p q c u b e) =
        subst (λ count. Statement (renamed_tokens f ts) (node (named (k.FunctionDecl count) (f n)) (renamed_all f (join parts body))) i (j + 1)) (size_renamed f parts)
        (subst (λ all. Statement (renamed_tokens f ts) (node (named (k.FunctionDecl (size (renamed_all f parts))) (f n)) all) i (j + 1)) (sym (join_renamed f parts body))
        (declaration (role o) (role x) (role p) (params' q) (role c) (role u) (statements_renamed b) (role e)))

    pub statements_renamed : {parts : Roses} {i j : ℕ} → Statements ts parts i j → Statements (renamed_tokens f ts) (renamed_all f parts) i j
    statements_renamed finished = finished
    statements_renamed (statement q p) = statement (statement_renamed q) (statements_renamed p)
