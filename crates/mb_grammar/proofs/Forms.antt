-- Each node of a tree of the grammar has its form.
use Rattle.std.proofs.Common.{◌≡◌, ℕ, ◌+◌, Bool, true, false, List, [], ◌∷◌, length, Option, Some, None, refl, sym, subst, arith}
use Rattle.std.specs.Prelude.{slice_get, IsSome, nat_le, if◌then◌else◌}
use Rattle.std.specs.List.{All}
use Rattle.std.specs.Option.{option_map}
use Rattle.std.proofs.lemmas.List.Elements.{All-append, All-get_or, All-nil, All-cons}
use Rattle.std.proofs.lemmas.Option.{slice_get_within, get_or_from_slice_get}
use Rattle.std.proofs.lemmas.Bool.{le-leb}
use Rattle.mb_base.specs.declared.value.StrId.{StrId}
use Rattle.mb_tree.specs.declared.kind.Kind.{Kind}
use Rattle.mb_tree.specs.Roses.{Rose, Roses, node, none, more, Shape, shape, write, write_all, roots, size, join}
use Rattle.mb_tree.specs.Form.{PropName, FunctionParts, Form, form_of, function_parts, function_decl_form, for_form, try_form, value_form, method_form, key_and_rest}
use Rattle.mb_tree.proofs.Written.{roots_length}
use Rattle.mb_grammar.specs.declared.function.Property.{Property}
use Rattle.mb_grammar.specs.declared.function.Maker.{Maker}
use Rattle.mb_grammar.specs.Tokens.{Tokens, Place}
use Rattle.mb_grammar.specs.Nonterminals.{Nonterminal}
use Rattle.mb_grammar.specs.Labels.{one_part, param, made_label}
use Rattle.mb_grammar.specs.Parts.{Names, last_name, name_and, Params, no_params, params, params_comma, MakerParams, of_function, of_method, of_getter, of_setter, Head, one, many}
use Rattle.mb_grammar.specs.Grammar.{Bodies, Stands, lift, left_new, left_call, new_member, seq, assign, compound, arrow_value, arrow_block, cond, or, and_also, binary, unary, negative, before, behind, new_new, new_args, member, index, call, this, name_of, number, text, literal, array, object, function, group, Listed, last_of, then_of, Elements, nothing, elements, elements_comma, KeyOf, key_word, key_text, key_number, key_computed, Before, unnamed, with_name, method, getter, setter, Made, made, PropertyOf, valued, shorthand, maker_of, PropertyList, last_property, then_property, Properties, no_property, properties, properties_comma, Declarations, last_declared, then_declared, Declared, declared, declared_as, Lets, lets, BlockOf, block, Perhaps, absent, present, ForFirst, first_lets, first_expression, Caught, no_catch, catch_all, catch_named, Finally, no_finally, finally, Sub, sub_block, empty, expression, if_then, if_else, while_do, do_while, for_loop, returns, returns_with, throw, break, continue, try, Statement, sub, let_statement, const, declaration, Statements, finished, statement}
use Rattle.mb_grammar.specs.Script.{IsTreeOfGrammar}

-- a tree whose nodes have forms, wherever it is written

abbrev mutual
  Formed : Rose → Type 0
  Formed (node label parts) = ((out : List Shape) → IsSome (form_of (shape label (roots out parts)))) × AllFormed parts

  AllFormed : Roses → Type 0
  AllFormed none = Unit {0}
  AllFormed (more part parts) = Formed part × AllFormed parts

abbrev HasForm : Shape → Type 0
HasForm x = IsSome (form_of x)

join_formed : (a b : Roses) → AllFormed a → AllFormed b → AllFormed (join a b)
join_formed none b h k = k
join_formed (more part parts) b h k = (h.0, join_formed parts b h.1 k)

map_some : {A B : Type 0} (f : A → B) (o : Option A) → IsSome o → IsSome (option_map f o)
map_some f None h = h
map_some f (Some x) h = refl

decl_some : (name : StrId) (o : Option FunctionParts) → IsSome o → IsSome (function_decl_form (Some name) o)
decl_some name None h = h
decl_some name (Some x) h = refl

-- functions

join_size : (a b : Roses) → size (join a b) ≡ size a + size b
join_size none b = omega arith
join_size (more part parts) b = omega (arith, join_size parts b)

some_if : {A : Type 0} (b : Bool) (x : A) → b ≡ true → IsSome (if b then Some x else None)
some_if b x e = subst (λ y. IsSome (if y then Some x else None)) (sym e) refl

has_parts : (ps body : Roses) (out : List Shape) → IsSome (function_parts (size ps) (roots out (join ps body)))
has_parts ps body out =
    some_if (nat_le (size ps) (length (roots out (join ps body)))) _ (le-leb _ _ (omega (arith, roots_length out (join ps body), join_size ps body)))

-- parts that may be left out

data OneIf : Bool → Roses → Type 0 where
  no_part : OneIf false none
  a_part : {a : Rose} → OneIf true (more a none)

data CaughtIf : Bool → Bool → Roses → Type 0 where
  none_caught : CaughtIf false false none
  all_caught : {b : Rose} → CaughtIf true false (more b none)
  one_caught : {a b : Rose} → CaughtIf true true (more a (more b none))

for_has : {a b c : Bool} {x y z : Roses} → OneIf a x → OneIf b y → OneIf c z → (d : Rose) (out : List Shape) → IsSome (for_form a b c (roots out (join x (join y (join z (one_part d))))))
for_has no_part no_part no_part d out = refl
for_has no_part no_part a_part d out = refl
for_has no_part a_part no_part d out = refl
for_has no_part a_part a_part d out = refl
for_has a_part no_part no_part d out = refl
for_has a_part no_part a_part d out = refl
for_has a_part a_part no_part d out = refl
for_has a_part a_part a_part d out = refl

try_has : {a b c : Bool} {x y : Roses} (b0 : Rose) → CaughtIf a b x → OneIf c y → (a ≡ false → c ≡ false → ⊥) → (out : List Shape) → IsSome (try_form a b c (roots out (more b0 (join x y))))
try_has b0 none_caught no_part h out = absurd (h refl refl)
try_has b0 none_caught a_part h out = refl
try_has b0 all_caught no_part h out = refl
try_has b0 all_caught a_part h out = refl
try_has b0 one_caught no_part h out = refl
try_has b0 one_caught a_part h out = refl

module _ {ts : Tokens} where
  key_has : {p : Property} {keys : Roses} {ds es : Bodies} {i j : Place} (n : ℕ) (form : PropName → FunctionParts → Form) (kind : Kind) (rest : Roses) → KeyOf ts p keys ds es i j → ((out : List Shape) → IsSome (function_parts n (roots out rest))) → (out : List Shape) → IsSome (method_form n form (key_and_rest p.key (record { kind = kind; name = p.name; whole = p.whole }) (roots out (join keys rest))))
  key_has n form kind rest (key_word q) h out = map_some _ _ (h out)
  key_has n form kind rest (key_text q) h out = map_some _ _ (h out)
  key_has n form kind rest (key_number q) h out = map_some _ _ (h out)
  key_has n form kind rest (key_computed {a = a} q r s) h out = map_some _ _ (h (write out a))

  value_has : {p : Property} {keys : Roses} {ds es : Bodies} {i j : Place} (kind : Kind) → KeyOf ts p keys ds es i j → (a : Rose) (out : List Shape) → IsSome (value_form (key_and_rest p.key (record { kind = kind; name = p.name; whole = p.whole }) (roots out (join keys (one_part a)))))
  value_has kind (key_word q) a out = refl
  value_has kind (key_text q) a out = refl
  value_has kind (key_number q) a out = refl
  value_has kind (key_computed q r s) a out = refl

  made_has : {maker : Maker} {keys parts : Roses} {ds es : Bodies} {i j m n : Place} → Before ts maker keys ds es i m → MakerParams ts maker parts j n → (body : Roses) (out : List Shape) → IsSome (form_of (shape (made_label maker (size parts)) (roots out (join keys (join parts body)))))
  made_has {parts = parts} (unnamed q) (of_function r) body out = map_some _ _ (has_parts parts body out)
  made_has {parts = parts} (with_name q q') (of_function r) body out = map_some _ _ (has_parts parts body out)
  made_has {parts = parts} (method q) (of_method r) body out = key_has _ _ _ (join parts body) q (has_parts parts body) out
  made_has (getter g q) of_getter body out = key_has _ _ _ body q (has_parts none body) out
  made_has (setter g q) (of_setter {n = n} r) body out = key_has _ _ _ (join (one_part (param n)) body) q (has_parts (one_part (param n)) body) out

  perhaps_one : {b : Bool} {parts : Roses} {i j : Place} → Perhaps ts b parts i j → OneIf b parts
  perhaps_one absent = no_part
  perhaps_one (present q) = a_part

  first_one : {b : Bool} {parts : Roses} {i j : Place} → ForFirst ts b parts i j → OneIf b parts
  first_one (first_lets q) = a_part
  first_one (first_expression q) = perhaps_one q

  finally_one : {b : Bool} {parts : Roses} {i j : Place} → Finally ts b parts i j → OneIf b parts
  finally_one no_finally = no_part
  finally_one (finally w q) = a_part

  caught_of : {b c : Bool} {parts : Roses} {i j : Place} → Caught ts b c parts i j → CaughtIf b c parts
  caught_of no_catch = none_caught
  caught_of (catch_all w q) = all_caught
  caught_of (catch_named w o n c q) = one_caught

  names_formed : {parts : Roses} {i : Place} {j : Place} → Names ts parts i j → AllFormed parts
  names_formed (last_name q1) = ((λ out. refl, tt), tt)
  names_formed (name_and q1 q2 q3) = ((λ out. refl, tt), names_formed q3)

  params_formed : {parts : Roses} {i : Place} {j : Place} → Params ts parts i j → AllFormed parts
  params_formed no_params = tt
  params_formed (params q1) = names_formed q1
  params_formed (params_comma q1 q2) = names_formed q1

  maker_params_formed : {maker : Maker} {parts : Roses} {i : Place} {j : Place} → MakerParams ts maker parts i j → AllFormed parts
  maker_params_formed (of_function q1) = params_formed q1
  maker_params_formed (of_method q1) = params_formed q1
  maker_params_formed of_getter = tt
  maker_params_formed (of_setter q1) = ((λ out. refl, tt), tt)

  head_formed : {parts : Roses} {i : Place} {j : Place} → Head ts parts i j → AllFormed parts
  head_formed (one q1) = ((λ out. refl, tt), tt)
  head_formed (many q1 q2 q3) = params_formed q2

  mutual
    stands_formed : {l : Nonterminal} {a : Rose} {ds : Bodies} {es : Bodies} {i : Place} {j : Place} → Stands ts l a ds es i j → Formed a
    stands_formed (lift q1 q2) = stands_formed q2
    stands_formed (left_new q1) = stands_formed q1
    stands_formed (left_call q1) = stands_formed q1
    stands_formed (new_member q1) = stands_formed q1
    stands_formed (seq q1 q2 q3) = (λ out. refl, (stands_formed q1, listed_formed q3))
    stands_formed (assign q1 q2 q3) = (λ out. refl, (stands_formed q1, (stands_formed q3, tt)))
    stands_formed (compound q1 q2 q3) = (λ out. refl, (stands_formed q1, (stands_formed q3, tt)))
    stands_formed (arrow_value {parts = parts} {b = b} q1 q2 q3 q4 q5) =
        (λ out. map_some _ _ (has_parts parts (one_part b) out), join_formed parts (one_part b) (head_formed q1) (stands_formed q5, tt))
    stands_formed (arrow_block {parts = parts} {body = body} q1 q2 q3 q4 q5 q6) =
        (λ out. map_some _ _ (has_parts parts body out), join_formed parts body (head_formed q1) (statements_formed q5))
    stands_formed (cond q1 q2 q3 q4 q5) = (λ out. refl, (stands_formed q1, (stands_formed q3, (stands_formed q5, tt))))
    stands_formed (or q1 q2 q3) = (λ out. refl, (stands_formed q1, (stands_formed q3, tt)))
    stands_formed (and_also q1 q2 q3) = (λ out. refl, (stands_formed q1, (stands_formed q3, tt)))
    stands_formed (binary q1 q2 q3) = (λ out. refl, (stands_formed q1, (stands_formed q3, tt)))
    stands_formed (unary q1 q2) = (λ out. refl, (stands_formed q2, tt))
    stands_formed (negative q1 q2) = (λ out. refl, (stands_formed q2, tt))
    stands_formed (before q1 q2) = (λ out. refl, (stands_formed q2, tt))
    stands_formed (behind q1 q2 q3) = (λ out. refl, (stands_formed q1, tt))
    stands_formed (new_new q1 q2) = (λ out. refl, (stands_formed q2, tt))
    stands_formed (new_args q1 q2 q3 q4 q5) = (λ out. refl, (stands_formed q2, elements_formed q4))
    stands_formed (member q1 q2 q3 q4) = (λ out. refl, (stands_formed q2, tt))
    stands_formed (index q1 q2 q3 q4 q5) = (λ out. refl, (stands_formed q2, (stands_formed q4, tt)))
    stands_formed (call q1 q2 q3 q4 q5) = (λ out. refl, (stands_formed q2, elements_formed q4))
    stands_formed (this q1) = (λ out. refl, tt)
    stands_formed (name_of q1) = (λ out. refl, tt)
    stands_formed (number q1) = (λ out. refl, tt)
    stands_formed (text q1) = (λ out. refl, tt)
    stands_formed (literal q1) = (λ out. refl, tt)
    stands_formed (array q1 q2 q3) = (λ out. refl, elements_formed q2)
    stands_formed (object q1 q2 q3) = (λ out. refl, properties_formed q2)
    stands_formed (function q1 q2) = made_formed q2
    stands_formed (group q1 q2 q3) = (λ out. refl, (stands_formed q2, tt))

    listed_formed : {parts : Roses} {ds : Bodies} {es : Bodies} {i : Place} {j : Place} → Listed ts parts ds es i j → AllFormed parts
    listed_formed (last_of q1) = (stands_formed q1, tt)
    listed_formed (then_of q1 q2 q3) = (stands_formed q1, listed_formed q3)

    elements_formed : {parts : Roses} {ds : Bodies} {es : Bodies} {i : Place} {j : Place} → Elements ts parts ds es i j → AllFormed parts
    elements_formed nothing = tt
    elements_formed (elements q1) = listed_formed q1
    elements_formed (elements_comma q1 q2) = listed_formed q1

    key_of_formed : {p : Property} {parts : Roses} {ds : Bodies} {es : Bodies} {i : Place} {j : Place} → KeyOf ts p parts ds es i j → AllFormed parts
    key_of_formed (key_word q1) = tt
    key_of_formed (key_text q1) = tt
    key_of_formed (key_number q1) = tt
    key_of_formed (key_computed q1 q2 q3) = (stands_formed q2, tt)

    before_formed : {maker : Maker} {parts : Roses} {ds : Bodies} {es : Bodies} {i : Place} {j : Place} → Before ts maker parts ds es i j → AllFormed parts
    before_formed (unnamed q1) = tt
    before_formed (with_name q1 q2) = tt
    before_formed (method q1) = key_of_formed q1
    before_formed (getter q1 q2) = key_of_formed q2
    before_formed (setter q1 q2) = key_of_formed q2

    made_formed : {maker : Maker} {a : Rose} {ds : Bodies} {es : Bodies} {i : Place} {j : Place} → Made ts maker a ds es i j → Formed a
    made_formed (made {keys = keys} {parts = parts} {body = body} q1 q2 q3 q4 q5 q6 q7) =
        (λ out. made_has q1 q3 body out, join_formed keys (join parts body) (before_formed q1) (join_formed parts body (maker_params_formed q3) (statements_formed q6)))

    property_of_formed : {a : Rose} {ds : Bodies} {es : Bodies} {i : Place} {j : Place} → PropertyOf ts a ds es i j → Formed a
    property_of_formed (valued {keys = keys} {a = a} q1 q2 q3) = (λ out. value_has _ q1 a out, join_formed keys (one_part a) (key_of_formed q1) (stands_formed q3, tt))
    property_of_formed (shorthand q1) = (λ out. refl, ((λ out. refl, tt), tt))
    property_of_formed (maker_of q1 q2) = made_formed q2

    property_list_formed : {parts : Roses} {ds : Bodies} {es : Bodies} {i : Place} {j : Place} → PropertyList ts parts ds es i j → AllFormed parts
    property_list_formed (last_property q1) = (property_of_formed q1, tt)
    property_list_formed (then_property q1 q2 q3) = (property_of_formed q1, property_list_formed q3)

    properties_formed : {parts : Roses} {ds : Bodies} {es : Bodies} {i : Place} {j : Place} → Properties ts parts ds es i j → AllFormed parts
    properties_formed no_property = tt
    properties_formed (properties q1) = property_list_formed q1
    properties_formed (properties_comma q1 q2) = property_list_formed q1

    declarations_formed : {b : Bool} {parts : Roses} {i : Place} {j : Place} → Declarations ts b parts i j → AllFormed parts
    declarations_formed (last_declared q1) = (declared_formed q1, tt)
    declarations_formed (then_declared q1 q2 q3) = (declared_formed q1, declarations_formed q3)

    declared_formed : {b : Bool} {a : Rose} {i : Place} {j : Place} → Declared ts b a i j → Formed a
    declared_formed (declared q1) = (λ out. refl, tt)
    declared_formed (declared_as q1 q2 q3) = (λ out. refl, (stands_formed q3, tt))

    lets_formed : {a : Rose} {i : Place} {j : Place} → Lets ts a i j → Formed a
    lets_formed (lets q1 q2) = (λ out. refl, declarations_formed q2)

    block_of_formed : {a : Rose} {i : Place} {j : Place} → BlockOf ts a i j → Formed a
    block_of_formed (block q1 q2 q3) = (λ out. refl, statements_formed q2)

    perhaps_formed : {b : Bool} {parts : Roses} {i : Place} {j : Place} → Perhaps ts b parts i j → AllFormed parts
    perhaps_formed absent = tt
    perhaps_formed (present q1) = (stands_formed q1, tt)

    for_first_formed : {b : Bool} {parts : Roses} {i : Place} {j : Place} → ForFirst ts b parts i j → AllFormed parts
    for_first_formed (first_lets q1) = (lets_formed q1, tt)
    for_first_formed (first_expression q1) = perhaps_formed q1

    caught_formed : {b : Bool} {c : Bool} {parts : Roses} {i : Place} {j : Place} → Caught ts b c parts i j → AllFormed parts
    caught_formed no_catch = tt
    caught_formed (catch_all q1 q2) = (block_of_formed q2, tt)
    caught_formed (catch_named q1 q2 q3 q4 q5) = ((λ out. refl, tt), (block_of_formed q5, tt))

    finally_formed : {b : Bool} {parts : Roses} {i : Place} {j : Place} → Finally ts b parts i j → AllFormed parts
    finally_formed no_finally = tt
    finally_formed (finally q1 q2) = (block_of_formed q2, tt)

    sub_formed : {a : Rose} {i : Place} {j : Place} → Sub ts a i j → Formed a
    sub_formed (sub_block q1) = block_of_formed q1
    sub_formed (empty q1) = (λ out. refl, tt)
    sub_formed (expression q1 q2 q3 q4) = (λ out. refl, (stands_formed q3, tt))
    sub_formed (if_then q1 q2 q3 q4 q5 q6) = (λ out. refl, (stands_formed q3, (sub_formed q5, tt)))
    sub_formed (if_else q1 q2 q3 q4 q5 q6 q7) = (λ out. refl, (stands_formed q3, (sub_formed q5, (sub_formed q7, tt))))
    sub_formed (while_do q1 q2 q3 q4 q5) = (λ out. refl, (stands_formed q3, (sub_formed q5, tt)))
    sub_formed (do_while q1 q2 q3 q4 q5 q6 q7) = (λ out. refl, (sub_formed q2, (stands_formed q5, tt)))
    sub_formed (for_loop {x = x} {y = y} {z = z} {d = d} q1 q2 q3 q4 q5 q6 q7 q8 q9) = (
      λ out. for_has (first_one q3) (perhaps_one q5) (perhaps_one q7) d out,
      join_formed x (join y (join z (one_part d))) (for_first_formed q3)
          (join_formed y (join z (one_part d)) (perhaps_formed q5)
          (join_formed z (one_part d) (perhaps_formed q7) (sub_formed q9, tt))),
    )
    sub_formed (returns q1 q2) = (λ out. refl, tt)
    sub_formed (returns_with q1 q2 q3 q4) = (λ out. refl, (stands_formed q3, tt))
    sub_formed (throw q1 q2 q3 q4) = (λ out. refl, (stands_formed q3, tt))
    sub_formed (break q1 q2) = (λ out. refl, tt)
    sub_formed (continue q1 q2) = (λ out. refl, tt)
    sub_formed (try {b = b} {x = x} {y = y} q1 q2 q3 q4 q5) =
        (λ out. try_has b (caught_of q3) (finally_one q4) q5 out, (block_of_formed q2, join_formed x y (caught_formed q3) (finally_formed q4)))

    statement_formed : {a : Rose} {i : Place} {j : Place} → Statement ts a i j → Formed a
    statement_formed (sub q1) = sub_formed q1
    statement_formed (let_statement q1 q2) = lets_formed q1
    statement_formed (const q1 q2 q3) = (λ out. refl, declarations_formed q2)
    statement_formed (declaration {parts = parts} {body = body} q1 q2 q3 q4 q5 q6 q7 q8) =
        (λ out. decl_some _ _ (has_parts parts body out), join_formed parts body (params_formed q4) (statements_formed q7))

    statements_formed : {parts : Roses} {i : Place} {j : Place} → Statements ts parts i j → AllFormed parts
    statements_formed finished = tt
    statements_formed (statement q1 q2) = (statement_formed q1, statements_formed q2)

-- what is written of such a tree
mutual
  written_has : (out : List Shape) (r : Rose) → Formed r → All HasForm out → All HasForm (write out r)
  written_has out (node label parts) h k = All-append HasForm (write_all out parts) (shape label (roots out parts) ∷ []) (all_written_have out parts h.1 k) (All-cons HasForm (shape label (roots out parts)) [] (h.0 out) (All-nil HasForm))

  all_written_have : (out : List Shape) (rs : Roses) → AllFormed rs → All HasForm out → All HasForm (write_all out rs)
  all_written_have out none h k = k
  all_written_have out (more part parts) h k = all_written_have (write out part) parts h.1 (written_has out part h.0 k)

pub tree_has_forms : (shapes : List Shape) → IsTreeOfGrammar shapes → (i : ℕ) (s : Shape) → slice_get shapes i ≡ Some s → IsSome (form_of s)
tree_has_forms shapes t i s e =
    let all : All HasForm (write [] t.script) = written_has [] t.script (subst Formed (sym t.is.whole) (λ out. refl, statements_formed t.is.stand)) (All-nil HasForm) in
    let here : All HasForm shapes = subst (All HasForm) (sym t.nodes_are) all in
    subst HasForm (get_or_from_slice_get shapes i s s e) (All-get_or HasForm shapes i s (slice_get_within shapes i s e) here)
