-- Each node of a tree of the grammar has parts of the sorts of their places.
use Rattle.mb_base.specs.declared.value.NodeId.{NodeId}
use Rattle.mb_base.specs.declared.value.StrId.{StrId}
use Rattle.mb_frames.specs.Grammatical.{ArePartsOfFunction, HasItsParts, IsKey}
use Rattle.mb_frames.specs.Kinds.{Declared, Expression, NodeSort, Parameter, PropertyDefinition, Statement}
use Rattle.mb_grammar.specs.Grammar as g
use Rattle.mb_grammar.specs.Grammar.{Bodies, absent, and_also, array, arrow_block, arrow_value, assign, before}
use Rattle.mb_grammar.specs.Grammar.{behind, binary, block, break, call, catch_all, catch_named, compound, cond}
use Rattle.mb_grammar.specs.Grammar.{const, continue, declaration, declared, declared_as, do_while, elements}
use Rattle.mb_grammar.specs.Grammar.{elements_comma, empty, expression, finally, finished, first_expression}
use Rattle.mb_grammar.specs.Grammar.{first_lets, for_loop, function, getter, group, if_else, if_then, index}
use Rattle.mb_grammar.specs.Grammar.{key_computed, key_number, key_text, key_word, last_declared, last_of}
use Rattle.mb_grammar.specs.Grammar.{last_property, left_call, left_new, let_statement, lets, lift, literal, made}
use Rattle.mb_grammar.specs.Grammar.{maker_of, member, method, name_of, negative, new_args, new_member, new_new}
use Rattle.mb_grammar.specs.Grammar.{no_catch, no_finally, no_property, nothing, number, object, or, present}
use Rattle.mb_grammar.specs.Grammar.{properties, properties_comma, returns, returns_with, seq, setter, shorthand}
use Rattle.mb_grammar.specs.Grammar.{statement, sub, sub_block, text, then_declared, then_of, then_property, this}
use Rattle.mb_grammar.specs.Grammar.{throw, try, unary, unnamed, valued, while_do, with_name}
use Rattle.mb_grammar.specs.Labels.{made_label, one_part, param}
use Rattle.mb_grammar.specs.Nonterminals.{Nonterminal}
use Rattle.mb_grammar.specs.Parts as w
use Rattle.mb_grammar.specs.Parts.{Head, MakerParams, Names, Params, WordText, last_name, many, name_and, no_params}
use Rattle.mb_grammar.specs.Parts.{of_function, of_getter, of_method, of_setter, one, params, params_comma}
use Rattle.mb_grammar.specs.Tokens.{Place, RoleAt, Tokens}
use Rattle.mb_grammar.specs.declared.function.Maker.{Maker}
use Rattle.mb_grammar.specs.declared.function.Property.{Property}
use Rattle.mb_grammar.specs.declared.role.Role.TheVariants as r
use Rattle.mb_programs.proofs.Holding.{AreIn, TokenIn, at-role, at-token}
use Rattle.mb_programs.proofs.Optional.{caught-of, finally-one, first-one, perhaps-one}
use Rattle.mb_programs.proofs.Placing.{AllFit, Fits, Placed, declared-fits, fit, for-fits, join-fit, mapped, parts-of}
use Rattle.mb_programs.proofs.Placing.{placed-all, to, try-fits}
use Rattle.mb_programs.proofs.Sorts.{AllOf, block-sort, declarations-sorts, elements-sorts, head-sorts}
use Rattle.mb_programs.proofs.Sorts.{listed-sorts, maker-params-sorts, params-sorts, properties-sorts, sort_of}
use Rattle.mb_programs.proofs.Sorts.{stands-sort, statements-sorts, sub-sort}
use Rattle.mb_token.specs.declared.token.Token.{Token}
use Rattle.mb_token.specs.declared.token.Token.TheVariants as t
use Rattle.mb_tree.specs.Form.{ArrayForm, ArrowForm, Computed, Form, FunctionForm, FunctionParts, GetterForm}
use Rattle.mb_tree.specs.Form.{MethodForm, ObjectForm, PropName, SetterForm, Whole, Written, form_of, key_and_rest}
use Rattle.mb_tree.specs.Form.{method_form, value_form}
use Rattle.mb_tree.specs.Roses.{Rose, Roses, Shape, id_of, join, more, none, root, roots, shape, size, write}
use Rattle.mb_tree.specs.declared.kind.Kind.{Kind}
use Rattle.mb_world.specs.Ids.{Maybe}
use Rattle.std.proofs.lemmas.List.Elements.{All-nil}
use Rattle.std.proofs.Common.{Bool, List, None, Option, Some, refl, ℕ, false, true, ◌+◌, ◌<◌, ◌≡◌}

abbrev NameIn : ℕ → StrId → Type 0
NameIn n id = id.0 < n

word-in : {o : Option Token} {x : StrId} (n : ℕ) → Maybe (TokenIn n) o → WordText o x → NameIn n x
word-in n h w.name = h
word-in n h w.soft = h
word-in n h w.reserved = h

module _ (P : NodeSort → NodeId → Type 0) (n : ℕ) {ts : Tokens} (h : AreIn n ts) where
  name-at : {i : Place} {x : StrId} → RoleAt ts i (r.Name x) → NameIn n x
  name-at {i} {x} q = at-role n ts i (r.Name x) h q

  -- ---- keys

  key-name : {p : Property} {keys : Roses} {ds es : Bodies} {i j : Place} → g.KeyOf ts p keys ds es i j
      → Maybe (NameIn n) p.name
  key-name (key_word {i = i} q) = word-in n (h.tokens i) q
  key-name (key_text {n = x} {i = i} q) = at-token n ts i (t.Text x) h q.is
  key-name (key_number q) = tt
  key-name (key_computed q1 q2 q3) = tt

  method-fits : {p : Property} {keys : Roses} {ds es : Bodies} {i j : Place} → g.KeyOf ts p keys ds es i j
      → (make : PropName → FunctionParts → Form) (kind : Kind) (ps body : Roses)
      → ((key : PropName) (x : FunctionParts) → IsKey P key → ArePartsOfFunction P Statement x
      → HasItsParts P (make key x))
      → AllOf Parameter ps → AllOf Statement body → (out : List Shape)
      → Placed P (roots out (join keys (join ps body))) (join keys (join ps body)) → (f : Form)
      → method_form (size ps) make (key_and_rest p.key (record { kind = kind; name = p.name; whole = p.whole })
      (roots out (join keys (join ps body)))) ≡ Some f
      → HasItsParts P f
  method-fits (key_word {n = y} q) make kind ps body own u v out k f e =
      mapped P (make (Written y)) _ f e
      (λ x z. own (Written y) x tt (parts-of P Statement (roots out (join ps body)) ps body u v k x z))
  method-fits (key_text {n = y} q) make kind ps body own u v out k f e =
      mapped P (make (Written y)) _ f e
      (λ x z. own (Written y) x tt (parts-of P Statement (roots out (join ps body)) ps body u v k x z))
  method-fits (key_number {z = y} q) make kind ps body own u v out k f e =
      mapped P (make (Whole y)) _ f e
      (λ x z. own (Whole y) x tt (parts-of P Statement (roots out (join ps body)) ps body u v k x z))
  method-fits (key_computed {a = a} q1 q2 q3) make kind ps body own u v out k f e =
      mapped P (make (Computed (id_of (root out a)))) _ f e
      (λ x z. own (Computed (id_of (root out a))) x
      (to P (sort_of a) Expression (id_of (root out a)) (stands-sort q2) k.0)
      (parts-of P Statement (roots (write out a) (join ps body)) ps body u v k.1 x z))

  value-fits : {p : Property} {keys : Roses} {ds es : Bodies} {i j : Place} → g.KeyOf ts p keys ds es i j
      → (kind : Kind) (a : Rose) → sort_of a ≡ Expression → (out : List Shape)
      → Placed P (roots out (join keys (one_part a))) (join keys (one_part a)) → (f : Form)
      → value_form (key_and_rest p.key (record { kind = kind; name = p.name; whole = p.whole })
      (roots out (join keys (one_part a)))) ≡ Some f
      → HasItsParts P f
  value-fits (key_word q) kind a s out k f e = fit P _ f e (tt, to P _ _ _ s k.0)
  value-fits (key_text q) kind a s out k f e = fit P _ f e (tt, to P _ _ _ s k.0)
  value-fits (key_number q) kind a s out k f e = fit P _ f e (tt, to P _ _ _ s k.0)
  value-fits (key_computed q1 q2 q3) kind a s out k f e =
      fit P _ f e (to P _ _ _ (stands-sort q2) k.0, to P _ _ _ s k.1.0)

  -- ---- functions

  made-name : {maker : Maker} {keys : Roses} {ds es : Bodies} {i j : Place} (count : ℕ)
      → g.Before ts maker keys ds es i j → Maybe (NameIn n) (made_label maker count).name
  made-name count (unnamed q) = tt
  made-name count (with_name q1 q2) = name-at q2
  made-name count (method q) = key-name q
  made-name count (getter q1 q2) = key-name q2
  made-name count (setter q1 q2) = key-name q2

  made-parts : {maker : Maker} {keys ps : Roses} {ds es : Bodies} {i j m l : Place}
      → g.Before ts maker keys ds es i m → MakerParams ts maker ps j l → (body : Roses) → AllOf Statement body
      → (out : List Shape) → Placed P (roots out (join keys (join ps body))) (join keys (join ps body)) → (f : Form)
      → form_of (shape (made_label maker (size ps)) (roots out (join keys (join ps body)))) ≡ Some f
      → HasItsParts P f
  made-parts {ps = ps} (unnamed q) z body v out k f e =
      mapped P (FunctionForm None) _ f e
      (parts-of P Statement (roots out (join ps body)) ps body (maker-params-sorts z) v k)
  made-parts {ps = ps} (with_name {n = x} q1 q2) z body v out k f e =
      mapped P (FunctionForm (Some x)) _ f e
      (parts-of P Statement (roots out (join ps body)) ps body (maker-params-sorts z) v k)
  made-parts {ps = ps} (method q) z body v out k f e =
      method-fits q MethodForm _ ps body (λ key x a b. (a, b)) (maker-params-sorts z) v out k f e
  made-parts (getter q1 q2) of_getter body v out k f e =
      method-fits q2 GetterForm _ none body (λ key x a b. (a, b)) tt v out k f e
  made-parts (setter q1 q2) (of_setter {n = x} q) body v out k f e =
      method-fits q2 SetterForm _ (one_part (param x)) body (λ key x a b. (a, b)) (refl, tt) v out k f e

  -- ---- parameters

  param-fits : {i : Place} {x : StrId} → RoleAt ts i (r.Name x) → Fits P n (param x)
  param-fits q = ((name-at q, λ out k f e. fit P _ f e tt), tt)

  names-fit : {parts : Roses} {i j : Place} → Names ts parts i j → AllFit P n parts
  names-fit (last_name q1) = (param-fits q1, tt)
  names-fit (name_and q1 q2 q3) = (param-fits q1, names-fit q3)

  params-fit : {parts : Roses} {i j : Place} → Params ts parts i j → AllFit P n parts
  params-fit no_params = tt
  params-fit (params q1) = names-fit q1
  params-fit (params_comma q1 q2) = names-fit q1

  maker-params-fit : {maker : Maker} {parts : Roses} {i j : Place} → MakerParams ts maker parts i j
      → AllFit P n parts
  maker-params-fit (of_function q1) = params-fit q1
  maker-params-fit (of_method q1) = params-fit q1
  maker-params-fit of_getter = tt
  maker-params-fit (of_setter q1) = (param-fits q1, tt)

  head-fit : {parts : Roses} {i j : Place} → Head ts parts i j → AllFit P n parts
  head-fit (one q1) = (param-fits q1, tt)
  head-fit (many q1 q2 q3) = params-fit q2

  -- ---- one part, two, three

  expr : {a : Rose} {l : Nonterminal} {ds es : Bodies} {i j : Place} {id : NodeId} → g.Stands ts l a ds es i j
      → P (sort_of a) id → P Expression id
  expr {a} {id = id} q k = to P (sort_of a) Expression id (stands-sort q) k

  stmt : {a : Rose} {i j : Place} {id : NodeId} → g.Sub ts a i j → P (sort_of a) id → P Statement id
  stmt {a} {id = id} q k = to P (sort_of a) Statement id (sub-sort q) k

  -- ---- all trees

  mutual
    stands-fits : {l : Nonterminal} {a : Rose} {ds es : Bodies} {i j : Place} → g.Stands ts l a ds es i j → Fits P n a
    stands-fits (lift q1 q2) = stands-fits q2
    stands-fits (left_new q1) = stands-fits q1
    stands-fits (left_call q1) = stands-fits q1
    stands-fits (new_member q1) = stands-fits q1
    stands-fits (seq {a = a} {parts = parts} q1 q2 q3) = (
      (
        tt,
        λ out k f e. fit P _ f e
            (placed-all P Expression (roots out (more a parts)) (more a parts) (stands-sort q1, listed-sorts q3) k),
      ),
      (stands-fits q1, listed-fit q3),
    )
    stands-fits (assign q1 q2 q3) =
        ((tt, λ out k f e. fit P _ f e (expr q1 k.0, expr q3 k.1.0)), (stands-fits q1, (stands-fits q3, tt)))
    stands-fits (compound {sign} {m = m} q1 q2 q3) = (
      (tt, λ out k f e. fit P _ f e (at-role n ts m (r.Compound sign) h q2, expr q1 k.0, expr q3 k.1.0)),
      (stands-fits q1, (stands-fits q3, tt)),
    )
    stands-fits (arrow_value {parts = parts} {b = b} q1 q2 q3 q4 q5) = (
      (
        tt,
        λ out k f e. mapped P (λ (x : FunctionParts). ArrowForm x false) _ f e
            (parts-of P Expression (roots out (join parts (one_part b))) parts (one_part b) (head-sorts q1)
            (stands-sort q5, tt) k),
      ),
      join-fit P n parts (one_part b) (head-fit q1) (stands-fits q5, tt),
    )
    stands-fits (arrow_block {parts = parts} {body = body} q1 q2 q3 q4 q5 q6) = (
      (
        tt,
        λ out k f e. mapped P (λ (x : FunctionParts). ArrowForm x true) _ f e
            (parts-of P Statement (roots out (join parts body)) parts body (head-sorts q1) (statements-sorts q5) k),
      ),
      join-fit P n parts body (head-fit q1) (statements-fit q5),
    )
    stands-fits (cond q1 q2 q3 q4 q5) = (
      (tt, λ out k f e. fit P _ f e (expr q1 k.0, expr q3 k.1.0, expr q5 k.1.1.0)),
      (stands-fits q1, (stands-fits q3, (stands-fits q5, tt))),
    )
    stands-fits (or q1 q2 q3) =
        ((tt, λ out k f e. fit P _ f e (expr q1 k.0, expr q3 k.1.0)), (stands-fits q1, (stands-fits q3, tt)))
    stands-fits (and_also q1 q2 q3) =
        ((tt, λ out k f e. fit P _ f e (expr q1 k.0, expr q3 k.1.0)), (stands-fits q1, (stands-fits q3, tt)))
    stands-fits (binary q1 q2 q3) =
        ((tt, λ out k f e. fit P _ f e (expr q1 k.0, expr q3 k.1.0)), (stands-fits q1, (stands-fits q3, tt)))
    stands-fits (unary q1 q2) = ((tt, λ out k f e. fit P _ f e (expr q2 k.0)), (stands-fits q2, tt))
    stands-fits (negative q1 q2) = ((tt, λ out k f e. fit P _ f e (expr q2 k.0)), (stands-fits q2, tt))
    stands-fits (before q1 q2) = ((tt, λ out k f e. fit P _ f e (expr q2 k.0)), (stands-fits q2, tt))
    stands-fits (behind q1 q2 q3) = ((tt, λ out k f e. fit P _ f e (expr q1 k.0)), (stands-fits q1, tt))
    stands-fits (new_new q1 q2) =
        ((tt, λ out k f e. fit P _ f e (expr q2 k.0, All-nil (P Expression))), (stands-fits q2, tt))
    stands-fits (new_args {a = a} {parts = parts} q1 q2 q3 q4 q5) = (
      (
        tt,
        λ out k f e. fit P _ f e
            (expr q2 k.0, placed-all P Expression (roots (write out a) parts) parts (elements-sorts q4) k.1),
      ),
      (stands-fits q2, elements-fit q4),
    )
    stands-fits (member {m = m} q1 q2 q3 q4) =
        ((word-in n (h.tokens (m + 1)) q4, λ out k f e. fit P _ f e (expr q2 k.0)), (stands-fits q2, tt))
    stands-fits (index q1 q2 q3 q4 q5) =
        ((tt, λ out k f e. fit P _ f e (expr q2 k.0, expr q4 k.1.0)), (stands-fits q2, (stands-fits q4, tt)))
    stands-fits (call {a = a} {parts = parts} q1 q2 q3 q4 q5) = (
      (
        tt,
        λ out k f e. fit P _ f e
            (expr q2 k.0, placed-all P Expression (roots (write out a) parts) parts (elements-sorts q4) k.1),
      ),
      (stands-fits q2, elements-fit q4),
    )
    stands-fits (this q1) = ((tt, λ out k f e. fit P _ f e tt), tt)
    stands-fits (name_of q1) = ((name-at q1, λ out k f e. fit P _ f e tt), tt)
    stands-fits (number {z} {i = i} q1) = ((tt, λ out k f e. fit P _ f e (at-role n ts i (r.Number z) h q1)), tt)
    stands-fits (text {n = x} {i = i} q1) = ((at-role n ts i (r.Text x) h q1, λ out k f e. fit P _ f e tt), tt)
    stands-fits (literal q1) = ((tt, λ out k f e. fit P _ f e tt), tt)
    stands-fits (array {parts} q1 q2 q3) = (
      (
        tt,
        λ out k f e. fit P (ArrayForm (roots out parts)) f e
            (placed-all P Expression (roots out parts) parts (elements-sorts q2) k),
      ),
      elements-fit q2,
    )
    stands-fits (object {parts} q1 q2 q3) = (
      (
        tt,
        λ out k f e. fit P (ObjectForm (roots out parts)) f e
            (placed-all P PropertyDefinition (roots out parts) parts (properties-sorts q2) k),
      ),
      properties-fit q2,
    )
    stands-fits (function q1 q2) = made-fits q2
    stands-fits (group q1 q2 q3) = ((tt, λ out k f e. fit P _ f e (expr q2 k.0)), (stands-fits q2, tt))

    listed-fit : {parts : Roses} {ds es : Bodies} {i j : Place} → g.Listed ts parts ds es i j → AllFit P n parts
    listed-fit (last_of q1) = (stands-fits q1, tt)
    listed-fit (then_of q1 q2 q3) = (stands-fits q1, listed-fit q3)

    elements-fit : {parts : Roses} {ds es : Bodies} {i j : Place} → g.Elements ts parts ds es i j → AllFit P n parts
    elements-fit nothing = tt
    elements-fit (elements q1) = listed-fit q1
    elements-fit (elements_comma q1 q2) = listed-fit q1

    key-fits : {p : Property} {parts : Roses} {ds es : Bodies} {i j : Place} → g.KeyOf ts p parts ds es i j
        → AllFit P n parts
    key-fits (key_word q1) = tt
    key-fits (key_text q1) = tt
    key-fits (key_number q1) = tt
    key-fits (key_computed q1 q2 q3) = (stands-fits q2, tt)

    before-fits : {maker : Maker} {parts : Roses} {ds es : Bodies} {i j : Place} → g.Before ts maker parts ds es i j
        → AllFit P n parts
    before-fits (unnamed q1) = tt
    before-fits (with_name q1 q2) = tt
    before-fits (method q1) = key-fits q1
    before-fits (getter q1 q2) = key-fits q2
    before-fits (setter q1 q2) = key-fits q2

    made-fits : {maker : Maker} {a : Rose} {ds es : Bodies} {i j : Place} → g.Made ts maker a ds es i j → Fits P n a
    made-fits (made {keys = keys} {parts = parts} {body = body} q1 q2 q3 q4 q5 q6 q7) = (
      (made-name (size parts) q1, λ out k f e. made-parts q1 q3 body (statements-sorts q6) out k f e),
      join-fit P n keys (join parts body) (before-fits q1)
          (join-fit P n parts body (maker-params-fit q3) (statements-fit q6)),
    )

    property-fits : {a : Rose} {ds es : Bodies} {i j : Place} → g.PropertyOf ts a ds es i j → Fits P n a
    property-fits (valued {keys = keys} {a = a} q1 q2 q3) = (
      (key-name q1, λ out k f e. value-fits q1 _ a (stands-sort q3) out k f e),
      join-fit P n keys (one_part a) (key-fits q1) (stands-fits q3, tt),
    )
    property-fits (shorthand q1) =
        ((name-at q1, λ out k f e. fit P _ f e (tt, k.0)), (((name-at q1, λ out k f e. fit P _ f e tt), tt), tt))
    property-fits (maker_of q1 q2) = made-fits q2

    property-list-fit : {parts : Roses} {ds es : Bodies} {i j : Place} → g.PropertyList ts parts ds es i j
        → AllFit P n parts
    property-list-fit (last_property q1) = (property-fits q1, tt)
    property-list-fit (then_property q1 q2 q3) = (property-fits q1, property-list-fit q3)

    properties-fit : {parts : Roses} {ds es : Bodies} {i j : Place} → g.Properties ts parts ds es i j → AllFit P n parts
    properties-fit no_property = tt
    properties-fit (properties q1) = property-list-fit q1
    properties-fit (properties_comma q1 q2) = property-list-fit q1

    declarations-fit : {b : Bool} {parts : Roses} {i j : Place} → g.Declarations ts b parts i j → AllFit P n parts
    declarations-fit (last_declared q1) = (declared-fit q1, tt)
    declarations-fit (then_declared q1 q2 q3) = (declared-fit q1, declarations-fit q3)

    declared-fit : {b : Bool} {a : Rose} {i j : Place} → g.Declared ts b a i j → Fits P n a
    declared-fit (declared q1) = ((name-at q1, λ out k f e. fit P _ f e tt), tt)
    declared-fit (declared_as q1 q2 q3) = ((name-at q1, λ out k f e. fit P _ f e (expr q3 k.0)), (stands-fits q3, tt))

    lets-fit : {a : Rose} {i j : Place} → g.Lets ts a i j → Fits P n a
    lets-fit (lets {parts} q1 q2) = (
      (tt, λ out k f e. fit P _ f e (placed-all P Declared (roots out parts) parts (declarations-sorts q2) k)),
      declarations-fit q2,
    )

    block-fit : {a : Rose} {i j : Place} → g.BlockOf ts a i j → Fits P n a
    block-fit (block {parts} q1 q2 q3) = (
      (tt, λ out k f e. fit P _ f e (placed-all P Statement (roots out parts) parts (statements-sorts q2) k)),
      statements-fit q2,
    )

    perhaps-fit : {b : Bool} {parts : Roses} {i j : Place} → g.Perhaps ts b parts i j → AllFit P n parts
    perhaps-fit absent = tt
    perhaps-fit (present q1) = (stands-fits q1, tt)

    first-fit : {b : Bool} {parts : Roses} {i j : Place} → g.ForFirst ts b parts i j → AllFit P n parts
    first-fit (first_lets q1) = (lets-fit q1, tt)
    first-fit (first_expression q1) = perhaps-fit q1

    caught-fit : {b c : Bool} {parts : Roses} {i j : Place} → g.Caught ts b c parts i j → AllFit P n parts
    caught-fit no_catch = tt
    caught-fit (catch_all q1 q2) = (block-fit q2, tt)
    caught-fit (catch_named q1 q2 q3 q4 q5) = (param-fits q3, (block-fit q5, tt))

    finally-fit : {b : Bool} {parts : Roses} {i j : Place} → g.Finally ts b parts i j → AllFit P n parts
    finally-fit no_finally = tt
    finally-fit (finally q1 q2) = (block-fit q2, tt)

    sub-fits : {a : Rose} {i j : Place} → g.Sub ts a i j → Fits P n a
    sub-fits (sub_block q1) = block-fit q1
    sub-fits (empty q1) = ((tt, λ out k f e. fit P _ f e tt), tt)
    sub-fits (expression q1 q2 q3 q4) = ((tt, λ out k f e. fit P _ f e (expr q3 k.0)), (stands-fits q3, tt))
    sub-fits (if_then q1 q2 q3 q4 q5 q6) =
        ((tt, λ out k f e. fit P _ f e (expr q3 k.0, stmt q5 k.1.0, tt)), (stands-fits q3, (sub-fits q5, tt)))
    sub-fits (if_else q1 q2 q3 q4 q5 q6 q7) = (
      (tt, λ out k f e. fit P _ f e (expr q3 k.0, stmt q5 k.1.0, stmt q7 k.1.1.0)),
      (stands-fits q3, (sub-fits q5, (sub-fits q7, tt))),
    )
    sub-fits (while_do q1 q2 q3 q4 q5) =
        ((tt, λ out k f e. fit P _ f e (expr q3 k.0, stmt q5 k.1.0)), (stands-fits q3, (sub-fits q5, tt)))
    sub-fits (do_while q1 q2 q3 q4 q5 q6 q7) =
        ((tt, λ out k f e. fit P _ f e (stmt q2 k.0, expr q5 k.1.0)), (sub-fits q2, (stands-fits q5, tt)))
    sub-fits (for_loop {x = x} {y = y} {z = z} {d = d} q1 q2 q3 q4 q5 q6 q7 q8 q9) = (
      (tt, λ out k f e. for-fits P (first-one q3) (perhaps-one q5) (perhaps-one q7) d (sub-sort q9) out k f e),
      join-fit P n x (join y (join z (one_part d))) (first-fit q3)
          (join-fit P n y (join z (one_part d)) (perhaps-fit q5)
          (join-fit P n z (one_part d) (perhaps-fit q7) (sub-fits q9, tt))),
    )
    sub-fits (returns q1 q2) = ((tt, λ out k f e. fit P _ f e tt), tt)
    sub-fits (returns_with q1 q2 q3 q4) = ((tt, λ out k f e. fit P _ f e (expr q3 k.0)), (stands-fits q3, tt))
    sub-fits (throw q1 q2 q3 q4) = ((tt, λ out k f e. fit P _ f e (expr q3 k.0)), (stands-fits q3, tt))
    sub-fits (break q1 q2) = ((tt, λ out k f e. fit P _ f e tt), tt)
    sub-fits (continue q1 q2) = ((tt, λ out k f e. fit P _ f e tt), tt)
    sub-fits (try {b = b} {x = x} {y = y} q1 q2 q3 q4 q5) = (
      (tt, λ out k f e. try-fits P b (block-sort q2) (caught-of q3) (finally-one q4) q5 out k f e),
      (block-fit q2, join-fit P n x y (caught-fit q3) (finally-fit q4)),
    )

    statement-fits : {a : Rose} {i j : Place} → g.Statement ts a i j → Fits P n a
    statement-fits (sub q1) = sub-fits q1
    statement-fits (let_statement q1 q2) = lets-fit q1
    statement-fits (const {parts} q1 q2 q3) = (
      (tt, λ out k f e. fit P _ f e (placed-all P Declared (roots out parts) parts (declarations-sorts q2) k)),
      declarations-fit q2,
    )
    statement-fits (declaration {n = x} {parts = parts} {body = body} q1 q2 q3 q4 q5 q6 q7 q8) = (
      (
        name-at q2,
        λ out k f e. declared-fits P x _ f e
            (parts-of P Statement (roots out (join parts body)) parts body (params-sorts q4) (statements-sorts q7) k),
      ),
      join-fit P n parts body (params-fit q4) (statements-fit q7),
    )

    pub statements-fit : {parts : Roses} {i j : Place} → g.Statements ts parts i j → AllFit P n parts
    statements-fit finished = tt
    statements-fit (statement q1 q2) = (statement-fits q1, statements-fit q2)
