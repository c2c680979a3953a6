-- Of which sort the trees of the grammar are.
use Rattle.mb_frames.specs.Grammatical.{kind_sort}
use Rattle.mb_frames.specs.Kinds.{Declared, Expression, NodeSort, Parameter, PropertyDefinition, Statement}
use Rattle.mb_grammar.specs.Grammar as g
use Rattle.mb_grammar.specs.Grammar.{Bodies, and_also, array, arrow_block, arrow_value, assign, before, behind}
use Rattle.mb_grammar.specs.Grammar.{binary, block, break, call, compound, cond, const, continue, declaration}
use Rattle.mb_grammar.specs.Grammar.{declared, declared_as, do_while, elements, elements_comma, empty, expression}
use Rattle.mb_grammar.specs.Grammar.{finished, for_loop, function, group, if_else, if_then, index, last_declared}
use Rattle.mb_grammar.specs.Grammar.{last_of, last_property, left_call, left_new, let_statement, lets, lift, literal}
use Rattle.mb_grammar.specs.Grammar.{made, maker_of, member, name_of, negative, new_args, new_member, new_new}
use Rattle.mb_grammar.specs.Grammar.{no_property, nothing, number, object, or, properties, properties_comma, returns}
use Rattle.mb_grammar.specs.Grammar.{returns_with, seq, shorthand, statement, sub, sub_block, text, then_declared}
use Rattle.mb_grammar.specs.Grammar.{then_of, then_property, this, throw, try, unary, valued, while_do}
use Rattle.mb_grammar.specs.Labels.{IsFunction, IsProperty}
use Rattle.mb_grammar.specs.Nonterminals.{Nonterminal}
use Rattle.mb_grammar.specs.Parts.{Head, MakerParams, Names, Params, last_name, many, name_and, no_params}
use Rattle.mb_grammar.specs.Parts.{of_function, of_getter, of_method, of_setter, one, params, params_comma}
use Rattle.mb_grammar.specs.Tokens.{Place, Tokens}
use Rattle.mb_grammar.specs.declared.function.Maker.{Maker}
use Rattle.mb_grammar.specs.declared.function.Maker.TheVariants as mk
use Rattle.mb_tree.specs.Roses.{Rose, Roses, more, node, none}
use Rattle.std.proofs.Common.{Bool, refl, ◌≡◌}

abbrev pub sort_of : Rose → NodeSort
sort_of (node label parts) = kind_sort label.kind

-- each of them is of that sort
abbrev pub AllOf : NodeSort → Roses → Type 0
AllOf s none = Unit {0}
AllOf s (more part parts) = (sort_of part ≡ s) × AllOf s parts

module _ {ts : Tokens} where
  -- ---- functions

  made-sort : {maker : Maker} {a : Rose} {ds es : Bodies} {i j : Place} → IsFunction maker
      → g.Made ts maker a ds es i j → sort_of a ≡ Expression
  made-sort {maker = mk.Arrow} h q = absurd h
  made-sort {maker = mk.Function name} h (made q1 q2 q3 q4 q5 q6 q7) = refl
  made-sort {maker = mk.Method p} h q = absurd h
  made-sort {maker = mk.Getter p} h q = absurd h
  made-sort {maker = mk.Setter p} h q = absurd h

  made-property : {maker : Maker} {a : Rose} {ds es : Bodies} {i j : Place} → IsProperty maker
      → g.Made ts maker a ds es i j → sort_of a ≡ PropertyDefinition
  made-property {maker = mk.Arrow} h q = absurd h
  made-property {maker = mk.Function name} h q = absurd h
  made-property {maker = mk.Method p} h (made q1 q2 q3 q4 q5 q6 q7) = refl
  made-property {maker = mk.Getter p} h (made q1 q2 q3 q4 q5 q6 q7) = refl
  made-property {maker = mk.Setter p} h (made q1 q2 q3 q4 q5 q6 q7) = refl

  pub names-sorts : {parts : Roses} {i j : Place} → Names ts parts i j → AllOf Parameter parts
  names-sorts (last_name q1) = (refl, tt)
  names-sorts (name_and q1 q2 q3) = (refl, names-sorts q3)

  pub params-sorts : {parts : Roses} {i j : Place} → Params ts parts i j → AllOf Parameter parts
  params-sorts no_params = tt
  params-sorts (params q1) = names-sorts q1
  params-sorts (params_comma q1 q2) = names-sorts q1

  pub maker-params-sorts : {maker : Maker} {parts : Roses} {i j : Place} → MakerParams ts maker parts i j
      → AllOf Parameter parts
  maker-params-sorts (of_function q1) = params-sorts q1
  maker-params-sorts (of_method q1) = params-sorts q1
  maker-params-sorts of_getter = tt
  maker-params-sorts (of_setter q1) = (refl, tt)

  pub head-sorts : {parts : Roses} {i j : Place} → Head ts parts i j → AllOf Parameter parts
  head-sorts (one q1) = (refl, tt)
  head-sorts (many q1 q2 q3) = params-sorts q2

  -- ---- expressions

  pub stands-sort : {l : Nonterminal} {a : Rose} {ds es : Bodies} {i j : Place} → g.Stands ts l a ds es i j
      → sort_of a ≡ Expression
  stands-sort (lift q1 q2) = stands-sort q2
  stands-sort (left_new q1) = stands-sort q1
  stands-sort (left_call q1) = stands-sort q1
  stands-sort (new_member q1) = stands-sort q1
  stands-sort (seq q1 q2 q3) = refl
  stands-sort (assign q1 q2 q3) = refl
  stands-sort (compound q1 q2 q3) = refl
  stands-sort (arrow_value q1 q2 q3 q4 q5) = refl
  stands-sort (arrow_block q1 q2 q3 q4 q5 q6) = refl
  stands-sort (cond q1 q2 q3 q4 q5) = refl
  stands-sort (or q1 q2 q3) = refl
  stands-sort (and_also q1 q2 q3) = refl
  stands-sort (binary q1 q2 q3) = refl
  stands-sort (unary q1 q2) = refl
  stands-sort (negative q1 q2) = refl
  stands-sort (before q1 q2) = refl
  stands-sort (behind q1 q2 q3) = refl
  stands-sort (new_new q1 q2) = refl
  stands-sort (new_args q1 q2 q3 q4 q5) = refl
  stands-sort (member q1 q2 q3 q4) = refl
  stands-sort (index q1 q2 q3 q4 q5) = refl
  stands-sort (call q1 q2 q3 q4 q5) = refl
  stands-sort (this q1) = refl
  stands-sort (name_of q1) = refl
  stands-sort (number q1) = refl
  stands-sort (text q1) = refl
  stands-sort (literal q1) = refl
  stands-sort (array q1 q2 q3) = refl
  stands-sort (object q1 q2 q3) = refl
  stands-sort (function q1 q2) = made-sort q1 q2
  stands-sort (group q1 q2 q3) = refl

  pub listed-sorts : {parts : Roses} {ds es : Bodies} {i j : Place} → g.Listed ts parts ds es i j
      → AllOf Expression parts
  listed-sorts (last_of q1) = (stands-sort q1, tt)
  listed-sorts (then_of q1 q2 q3) = (stands-sort q1, listed-sorts q3)

  pub elements-sorts : {parts : Roses} {ds es : Bodies} {i j : Place} → g.Elements ts parts ds es i j
      → AllOf Expression parts
  elements-sorts nothing = tt
  elements-sorts (elements q1) = listed-sorts q1
  elements-sorts (elements_comma q1 q2) = listed-sorts q1

  pub property-sort : {a : Rose} {ds es : Bodies} {i j : Place} → g.PropertyOf ts a ds es i j
      → sort_of a ≡ PropertyDefinition
  property-sort (valued q1 q2 q3) = refl
  property-sort (shorthand q1) = refl
  property-sort (maker_of q1 q2) = made-property q1 q2

  property-list-sorts : {parts : Roses} {ds es : Bodies} {i j : Place} → g.PropertyList ts parts ds es i j
      → AllOf PropertyDefinition parts
  property-list-sorts (last_property q1) = (property-sort q1, tt)
  property-list-sorts (then_property q1 q2 q3) = (property-sort q1, property-list-sorts q3)

  pub properties-sorts : {parts : Roses} {ds es : Bodies} {i j : Place} → g.Properties ts parts ds es i j
      → AllOf PropertyDefinition parts
  properties-sorts no_property = tt
  properties-sorts (properties q1) = property-list-sorts q1
  properties-sorts (properties_comma q1 q2) = property-list-sorts q1

  -- ---- statements

  declared-sort : {b : Bool} {a : Rose} {i j : Place} → g.Declared ts b a i j → sort_of a ≡ Declared
  declared-sort (declared q1) = refl
  declared-sort (declared_as q1 q2 q3) = refl

  pub declarations-sorts : {b : Bool} {parts : Roses} {i j : Place} → g.Declarations ts b parts i j
      → AllOf Declared parts
  declarations-sorts (last_declared q1) = (declared-sort q1, tt)
  declarations-sorts (then_declared q1 q2 q3) = (declared-sort q1, declarations-sorts q3)

  pub lets-sort : {a : Rose} {i j : Place} → g.Lets ts a i j → sort_of a ≡ Statement
  lets-sort (lets q1 q2) = refl

  pub block-sort : {a : Rose} {i j : Place} → g.BlockOf ts a i j → sort_of a ≡ Statement
  block-sort (block q1 q2 q3) = refl

  pub sub-sort : {a : Rose} {i j : Place} → g.Sub ts a i j → sort_of a ≡ Statement
  sub-sort (sub_block q1) = block-sort q1
  sub-sort (empty q1) = refl
  sub-sort (expression q1 q2 q3 q4) = refl
  sub-sort (if_then q1 q2 q3 q4 q5 q6) = refl
  sub-sort (if_else q1 q2 q3 q4 q5 q6 q7) = refl
  sub-sort (while_do q1 q2 q3 q4 q5) = refl
  sub-sort (do_while q1 q2 q3 q4 q5 q6 q7) = refl
  sub-sort (for_loop q1 q2 q3 q4 q5 q6 q7 q8 q9) = refl
  sub-sort (returns q1 q2) = refl
  sub-sort (returns_with q1 q2 q3 q4) = refl
  sub-sort (throw q1 q2 q3 q4) = refl
  sub-sort (break q1 q2) = refl
  sub-sort (continue q1 q2) = refl
  sub-sort (try q1 q2 q3 q4 q5) = refl

  statement-sort : {a : Rose} {i j : Place} → g.Statement ts a i j → sort_of a ≡ Statement
  statement-sort (sub q1) = sub-sort q1
  statement-sort (let_statement q1 q2) = lets-sort q1
  statement-sort (const q1 q2 q3) = refl
  statement-sort (declaration q1 q2 q3 q4 q5 q6 q7 q8) = refl

  pub statements-sorts : {parts : Roses} {i j : Place} → g.Statements ts parts i j → AllOf Statement parts
  statements-sorts finished = tt
  statements-sorts (statement q1 q2) = (statement-sort q1, statements-sorts q2)
