-- Whatever stands takes the tokens from its first place on, an expression or a statement at least one.
use Rattle.std.proofs.Common.{ℕ, ◌<◌, ◌≤◌, Bool, List, arith}
use Rattle.mb_token.specs.declared.token.Spanned.{Spanned}
use Rattle.mb_tree.specs.Roses.{Rose, Roses}
use Rattle.mb_grammar.specs.declared.function.Property.{Property}
use Rattle.mb_grammar.specs.declared.function.Maker.{Maker}
use Rattle.mb_grammar.specs.Parts.{Names, last_name, name_and, Params, no_params, params, params_comma, MakerParams, of_function, of_method, of_getter, of_setter, Head, one, many}
use Rattle.mb_grammar.specs.Grammar.{Stands, lift, left_new, left_call, new_member, seq, assign, compound, arrow_value, arrow_block, cond, or, and_also, binary, unary, negative, before, behind, new_new, new_args, member, index, call, this, name_of, number, text, literal, array, object, function, group, Listed, last_of, then_of, Elements, nothing, elements, elements_comma, KeyOf, key_word, key_text, key_number, key_computed, Before, unnamed, with_name, method, getter, setter, Made, made, PropertyOf, valued, shorthand, maker_of, PropertyList, last_property, then_property, Properties, no_property, properties, properties_comma, Declarations, last_declared, then_declared, Declared, declared, declared_as, Lets, lets, BlockOf, block, Perhaps, absent, present, ForFirst, first_lets, first_expression, Caught, no_catch, catch_all, catch_named, Finally, no_finally, finally, Sub, sub_block, empty, expression, if_then, if_else, while_do, do_while, for_loop, returns, returns_with, throw, break, continue, try, Statement, sub, let_statement, const, declaration, Statements, finished, statement}

module _ {ts : List Spanned} where
  names_forward : {parts : Roses} {i j : ℕ} → Names ts parts i j → i < j
  names_forward (last_name q1) = omega arith
  names_forward (name_and q1 q2 q3) = omega (arith, names_forward q3)

  params_forward : {parts : Roses} {i j : ℕ} → Params ts parts i j → i ≤ j
  params_forward no_params = omega arith
  params_forward (params q1) = omega (arith, names_forward q1)
  params_forward (params_comma q1 q2) = omega (arith, names_forward q1)

  maker_params_forward : {maker : Maker} {parts : Roses} {i j : ℕ} → MakerParams ts maker parts i j → i ≤ j
  maker_params_forward (of_function q1) = omega (arith, params_forward q1)
  maker_params_forward (of_method q1) = omega (arith, params_forward q1)
  maker_params_forward of_getter = omega arith
  maker_params_forward (of_setter q1) = omega arith

  head_forward : {parts : Roses} {i j : ℕ} → Head ts parts i j → i < j
  head_forward (one q1) = omega arith
  head_forward (many q1 q2 q3) = omega (arith, params_forward q2)

  mutual
    pub stands_forward : {l : ℕ} {a : Rose} {ds es : List ℕ} {i j : ℕ} → Stands ts l a ds es i j → i < j
    stands_forward (lift q1 q2) = omega (arith, stands_forward q2)
    stands_forward (left_new q1) = omega (arith, stands_forward q1)
    stands_forward (left_call q1) = omega (arith, stands_forward q1)
    stands_forward (new_member q1) = omega (arith, stands_forward q1)
    stands_forward (seq q1 q2 q3) = omega (arith, stands_forward q1, listed_forward q3)
    stands_forward (assign q1 q2 q3) = omega (arith, stands_forward q1, stands_forward q3)
    stands_forward (compound q1 q2 q3) = omega (arith, stands_forward q1, stands_forward q3)
    stands_forward (arrow_value q1 q2 q3 q4 q5) = omega (arith, head_forward q1, stands_forward q5)
    stands_forward (arrow_block q1 q2 q3 q4 q5 q6) = omega (arith, head_forward q1, statements_forward q5)
    stands_forward (cond q1 q2 q3 q4 q5) = omega (arith, stands_forward q1, stands_forward q3, stands_forward q5)
    stands_forward (or q1 q2 q3) = omega (arith, stands_forward q1, stands_forward q3)
    stands_forward (and_also q1 q2 q3) = omega (arith, stands_forward q1, stands_forward q3)
    stands_forward (binary q1 q2 q3) = omega (arith, stands_forward q1, stands_forward q3)
    stands_forward (unary q1 q2) = omega (arith, stands_forward q2)
    stands_forward (negative q1 q2) = omega (arith, stands_forward q2)
    stands_forward (before q1 q2) = omega (arith, stands_forward q2)
    stands_forward (behind q1 q2 q3) = omega (arith, stands_forward q1)
    stands_forward (new_new q1 q2) = omega (arith, stands_forward q2)
    stands_forward (new_args q1 q2 q3 q4 q5) = omega (arith, stands_forward q2, elements_forward q4)
    stands_forward (member q1 q2 q3 q4) = omega (arith, stands_forward q2)
    stands_forward (index q1 q2 q3 q4 q5) = omega (arith, stands_forward q2, stands_forward q4)
    stands_forward (call q1 q2 q3 q4 q5) = omega (arith, stands_forward q2, elements_forward q4)
    stands_forward (this q1) = omega arith
    stands_forward (name_of q1) = omega arith
    stands_forward (number q1) = omega arith
    stands_forward (text q1) = omega arith
    stands_forward (literal q1) = omega arith
    stands_forward (array q1 q2 q3) = omega (arith, elements_forward q2)
    stands_forward (object q1 q2 q3) = omega (arith, properties_forward q2)
    stands_forward (function q1 q2) = omega (arith, made_forward q2)
    stands_forward (group q1 q2 q3) = omega (arith, stands_forward q2)

    listed_forward : {parts : Roses} {ds es : List ℕ} {i j : ℕ} → Listed ts parts ds es i j → i < j
    listed_forward (last_of q1) = omega (arith, stands_forward q1)
    listed_forward (then_of q1 q2 q3) = omega (arith, stands_forward q1, listed_forward q3)

    elements_forward : {parts : Roses} {ds es : List ℕ} {i j : ℕ} → Elements ts parts ds es i j → i ≤ j
    elements_forward nothing = omega arith
    elements_forward (elements q1) = omega (arith, listed_forward q1)
    elements_forward (elements_comma q1 q2) = omega (arith, listed_forward q1)

    key_forward : {p : Property} {keys : Roses} {ds es : List ℕ} {i j : ℕ} → KeyOf ts p keys ds es i j → i < j
    key_forward (key_word q1) = omega arith
    key_forward (key_text q1) = omega arith
    key_forward (key_number q1) = omega arith
    key_forward (key_computed q1 q2 q3) = omega (arith, stands_forward q2)

    before_forward : {maker : Maker} {keys : Roses} {ds es : List ℕ} {i j : ℕ} → Before ts maker keys ds es i j → i < j
    before_forward (unnamed q1) = omega arith
    before_forward (with_name q1 q2) = omega arith
    before_forward (method q1) = omega (arith, key_forward q1)
    before_forward (getter q1 q2) = omega (arith, key_forward q2)
    before_forward (setter q1 q2) = omega (arith, key_forward q2)

    made_forward : {maker : Maker} {a : Rose} {ds es : List ℕ} {i j : ℕ} → Made ts maker a ds es i j → i < j
    made_forward (made q1 q2 q3 q4 q5 q6 q7) = omega (arith, before_forward q1, maker_params_forward q3, statements_forward q6)

    property_forward : {a : Rose} {ds es : List ℕ} {i j : ℕ} → PropertyOf ts a ds es i j → i < j
    property_forward (valued q1 q2 q3) = omega (arith, key_forward q1, stands_forward q3)
    property_forward (shorthand q1) = omega arith
    property_forward (maker_of q1 q2) = omega (arith, made_forward q2)

    property_list_forward : {parts : Roses} {ds es : List ℕ} {i j : ℕ} → PropertyList ts parts ds es i j → i < j
    property_list_forward (last_property q1) = omega (arith, property_forward q1)
    property_list_forward (then_property q1 q2 q3) = omega (arith, property_forward q1, property_list_forward q3)

    properties_forward : {parts : Roses} {ds es : List ℕ} {i j : ℕ} → Properties ts parts ds es i j → i ≤ j
    properties_forward no_property = omega arith
    properties_forward (properties q1) = omega (arith, property_list_forward q1)
    properties_forward (properties_comma q1 q2) = omega (arith, property_list_forward q1)

    declarations_forward : {fixed : Bool} {parts : Roses} {i j : ℕ} → Declarations ts fixed parts i j → i < j
    declarations_forward (last_declared q1) = omega (arith, declared_forward q1)
    declarations_forward (then_declared q1 q2 q3) = omega (arith, declared_forward q1, declarations_forward q3)

    declared_forward : {fixed : Bool} {a : Rose} {i j : ℕ} → Declared ts fixed a i j → i < j
    declared_forward (declared q1) = omega arith
    declared_forward (declared_as q1 q2 q3) = omega (arith, stands_forward q3)

    lets_forward : {a : Rose} {i j : ℕ} → Lets ts a i j → i < j
    lets_forward (lets q1 q2) = omega (arith, declarations_forward q2)

    block_forward : {a : Rose} {i j : ℕ} → BlockOf ts a i j → i < j
    block_forward (block q1 q2 q3) = omega (arith, statements_forward q2)

    perhaps_forward : {there : Bool} {parts : Roses} {i j : ℕ} → Perhaps ts there parts i j → i ≤ j
    perhaps_forward absent = omega arith
    perhaps_forward (present q1) = omega (arith, stands_forward q1)

    first_forward : {there : Bool} {parts : Roses} {i j : ℕ} → ForFirst ts there parts i j → i ≤ j
    first_forward (first_lets q1) = omega (arith, lets_forward q1)
    first_forward (first_expression q1) = omega (arith, perhaps_forward q1)

    caught_forward : {caught has_name : Bool} {parts : Roses} {i j : ℕ} → Caught ts caught has_name parts i j → i ≤ j
    caught_forward no_catch = omega arith
    caught_forward (catch_all q1 q2) = omega (arith, block_forward q2)
    caught_forward (catch_named q1 q2 q3 q4 q5) = omega (arith, block_forward q5)

    finally_forward : {ended : Bool} {parts : Roses} {i j : ℕ} → Finally ts ended parts i j → i ≤ j
    finally_forward no_finally = omega arith
    finally_forward (finally q1 q2) = omega (arith, block_forward q2)

    pub sub_forward : {a : Rose} {i j : ℕ} → Sub ts a i j → i < j
    sub_forward (sub_block q1) = omega (arith, block_forward q1)
    sub_forward (empty q1) = omega arith
    sub_forward (expression q1 q2 q3 q4) = omega (arith, stands_forward q3)
    sub_forward (if_then q1 q2 q3 q4 q5 q6) = omega (arith, stands_forward q3, sub_forward q5)
    sub_forward (if_else q1 q2 q3 q4 q5 q6 q7) = omega (arith, stands_forward q3, sub_forward q5, sub_forward q7)
    sub_forward (while_do q1 q2 q3 q4 q5) = omega (arith, stands_forward q3, sub_forward q5)
    sub_forward (do_while q1 q2 q3 q4 q5 q6 q7) = omega (arith, sub_forward q2, stands_forward q5)
    sub_forward (for_loop q1 q2 q3 q4 q5 q6 q7 q8 q9) = omega (arith, first_forward q3, perhaps_forward q5, perhaps_forward q7, sub_forward q9)
    sub_forward (returns q1 q2) = omega arith
    sub_forward (returns_with q1 q2 q3 q4) = omega (arith, stands_forward q3)
    sub_forward (throw q1 q2 q3 q4) = omega (arith, stands_forward q3)
    sub_forward (break q1 q2) = omega arith
    sub_forward (continue q1 q2) = omega arith
    sub_forward (try q1 q2 q3 q4 q5) = omega (arith, block_forward q2, caught_forward q3, finally_forward q4)

    pub statement_forward : {a : Rose} {i j : ℕ} → Statement ts a i j → i < j
    statement_forward (sub q1) = omega (arith, sub_forward q1)
    statement_forward (let_statement q1 q2) = omega (arith, lets_forward q1)
    statement_forward (const q1 q2 q3) = omega (arith, declarations_forward q2)
    statement_forward (declaration q1 q2 q3 q4 q5 q6 q7 q8) = omega (arith, params_forward q4, statements_forward q7)

    pub statements_forward : {parts : Roses} {i j : ℕ} → Statements ts parts i j → i ≤ j
    statements_forward finished = omega arith
    statements_forward (statement q1 q2) = omega (arith, statement_forward q1, statements_forward q2)
