-- The tokens of the right script are statements.
use Rattle.std.proofs.Common.{ℕ, Bool, true, false, List, [], ◌∷◌, length, refl, arith}
use Rattle.std.specs.Prelude.{pos}
use Rattle.mb_token.specs.declared.token.Spanned.{Spanned}
use Rattle.mb_token.specs.declared.word.Word.TheVariants as w
use Rattle.mb_tree.specs.declared.kind.Kind.TheVariants as k
use Rattle.mb_tree.specs.declared.kind.Sign.TheVariants as s
use Rattle.mb_tree.specs.Roses.{Rose, Roses, node, none, more, bare, named, numbered}
use Rattle.mb_grammar.specs.declared.role.Role.TheVariants as r
use Rattle.mb_grammar.specs.Grammar.{Stands, lift, left_new, left_call, new_member, compound, arrow_block, cond, member, index, call, name_of, number, last_of, elements, last_declared, declared_as, lets, expression, sub, let_statement, Statements, finished, statement}
use Rattle.mb_grammar.specs.Parts.{last_name, params, many}
use Rattle.mb_grammar.specs.Labels.{param}
use Rattle.mb_load_tree.proofs.Pieces.{Piece, tokens}
use Rattle.mb_load_tree.proofs.Lines.{id, sign}
use Rattle.mb_token.specs.declared.mark.Mark.TheVariants as m
use Rattle.mb_load_tree.proofs.Right.{chosen, adding, body, body_end, second_line, third_line, right_pieces}
use Rattle.mb_load_tree.proofs.Runs.{Run, later, role, text_here, word_here, same_line, no_role, down_to_assign, down_from_assign}
use Rattle.mb_load_tree.proofs.LeftTree.{After, finish}

abbrev pub name_tree : ℕ → Rose
name_tree n = node (named k.Name (id n)) none

abbrev pub nought_tree : Rose
nought_tree = node (numbered k.Number (pos 0)) none

abbrev pub let_tree : ℕ → Rose → Rose
let_tree n value = node (bare k.Let) (more (node (named k.Decl (id n)) (more value none)) none)

abbrev pub chosen_tree : Rose
chosen_tree =
    node (bare k.Cond)
    (more (node (bare k.Call) (more (node (named k.Member (id 7)) (more (name_tree 6) none)) (more (name_tree 4) none)))
    (more (node (bare k.Index) (more (name_tree 4) (more nought_tree none)))
    (more (node (named k.Member (id 8)) (more (name_tree 4) none)) none)))

abbrev pub adding_tree : Rose
adding_tree = node (bare k.ExprStmt) (more (node (bare (k.Compound s.Plus)) (more (name_tree 0) (more (name_tree 5) none))) none)

abbrev pub arrow_tree : Rose
arrow_tree = node (bare (k.Arrow 1 true)) (more (param (id 4)) (more (let_tree 5 chosen_tree) (more adding_tree none)))

abbrev pub second_tree : Rose
second_tree =
    node (bare k.ExprStmt) (more (node (bare k.Call)
    (more (node (named k.Member (id 3)) (more (node (named k.Member (id 2)) (more (name_tree 1) none)) none)) (more arrow_tree none))) none)

abbrev pub third_tree : Rose
third_tree = node (bare k.ExprStmt) (more (node (bare k.Call) (more (name_tree 9) (more (name_tree 0) none))) none)

abbrev pub right_trees : Roses
right_trees = more (let_tree 0 nought_tree) (more second_tree (more third_tree none))

down_to_or : {ts : List Spanned} {a : Rose} {ds es : List ℕ} {i j : ℕ} → Stands ts 15 a ds es i j → Stands ts 6 a ds es i j
down_to_or s =
    lift (omega arith) (lift (omega arith) (lift (omega arith) (lift (omega arith) (lift (omega arith) (lift (omega arith)
    (lift (omega arith) (lift (omega arith) (lift (omega arith) s))))))))

chosen_after : (ts : List Spanned) (i at : ℕ) (rest : List Piece) → Run ts i (tokens at false (chosen rest)) → After ts 3 chosen_tree i rest
chosen_after ts i at rest holder =
    let dot = later holder in
    let test = later dot in
    let opening = later test in
    let given = later opening in
    let closing = later given in
    let question = later closing in
    let array = later question in
    let bracket = later array in
    let zero_here = later bracket in
    let bracket_end = later zero_here in
    let colon = later bracket_end in
    let object = later colon in
    let dot_again = later object in
    let key = later dot_again in
    record {
      bodies = [];
      to = _;
      at = _;
      stands = lift (omega arith) (cond
          (down_to_or (left_call (call {l = 18} (omega arith) (member {l = 18} (omega arith) (name_of (role holder)) (role dot) (text_here (id 7) test refl)) (role opening)
          (elements (last_of (down_to_assign (left_new (new_member (name_of (role given))))))) (role closing))))
          (role question)
          (down_to_assign (left_new (new_member (index {l = 18} (omega arith) (name_of (role array)) (role bracket) (down_from_assign (down_to_assign (left_new (new_member (number (role zero_here)))))) (role bracket_end)))))
          (role colon)
          (down_to_assign (left_new (new_member (member {l = 18} (omega arith) (name_of (role object)) (role dot_again) (text_here (id 8) key refl))))));
      run = later key;
    }

-- statements stand, and then the rest
record Body (ts : List Spanned) (i : ℕ) (rest : List Piece) : Type 0 where
  to : ℕ
  at : ℕ
  stands : Statements ts (more (let_tree 5 chosen_tree) (more adding_tree none)) i to
  run : Run ts to (tokens at false rest)

body_after : (ts : List Spanned) (i at : ℕ) (rest : List Piece) → Run ts i (tokens at false (body rest)) → Body ts i rest
body_after ts i at rest first =
    let name = later first in
    let equal = later name in
    let value = chosen_after ts _ _ (sign m.Semicolon ∷ adding rest) (later equal) in
    let semicolon = value.run in
    let sum = later semicolon in
    let plus = later sum in
    let added = later plus in
    let end = later added in
    record {
      to = _;
      at = _;
      stands = statement (let_statement (lets (word_here w.Let (id 10) first refl) (last_declared (declared_as (role name) (role equal) value.stands))) (role semicolon))
          (statement (sub (expression (no_role r.OpenBrace sum (λ e. cc)) (no_role r.Function sum (λ e. cc))
          (down_from_assign (compound (left_new (new_member (name_of (role sum)))) (role plus) (down_to_assign (left_new (new_member (name_of (role added)))))))
          (role end))) finished);
      run = later end;
    }

third_stands : (ts : List Spanned) (i at : ℕ) (line : Bool) → Run ts i (tokens at line third_line) → Statements ts (more third_tree none) i (length ts)
third_stands ts i at line callee =
    let opening = later callee in
    let given = later opening in
    let closing = later given in
    let end = later closing in
    statement (sub (expression (no_role r.OpenBrace callee (λ e. cc)) (no_role r.Function callee (λ e. cc))
    (down_from_assign (down_to_assign (left_call (call {l = 18} (omega arith) (name_of (role callee)) (role opening) (elements (last_of (down_to_assign (left_new (new_member (name_of (role given))))))) (role closing)))))
    (role end)))
    (finish (later end))

second_stands : (ts : List Spanned) (i at : ℕ) (line : Bool) → Run ts i (tokens at line (second_line third_line)) → Statements ts (more second_tree (more third_tree none)) i (length ts)
second_stands ts i at line first =
    let dot = later first in
    let list = later dot in
    let dot_again = later list in
    let each = later dot_again in
    let opening = later each in
    let paren = later opening in
    let name = later paren in
    let paren_end = later name in
    let arrow = later paren_end in
    let brace = later arrow in
    let inner = body_after ts _ _ (body_end third_line) (later brace) in
    let brace_end = inner.run in
    let closing = later brace_end in
    let end = later closing in
    statement (sub (expression (no_role r.OpenBrace first (λ e. cc)) (no_role r.Function first (λ e. cc))
    (down_from_assign (down_to_assign (left_call (call {l = 18} (omega arith)
    (member {l = 18} (omega arith) (member {l = 18} (omega arith) (name_of (role first)) (role dot) (text_here (id 2) list refl)) (role dot_again) (text_here (id 3) each refl))
    (role opening)
    (elements (last_of (arrow_block (many (role paren) (params (last_name (role name))) (role paren_end)) (role arrow) (same_line arrow refl) (role brace) inner.stands (role brace_end))))
    (role closing)))))
    (role end)))
    (third_stands ts _ _ true (later end))

pub right_statements : (ts : List Spanned) → Run ts 0 (tokens 0 false right_pieces) → Statements ts right_trees 0 (length ts)
right_statements ts first =
    let name = later first in
    let equal = later name in
    let value = later equal in
    let end = later value in
    statement (let_statement (lets (word_here w.Let (id 10) first refl) (last_declared (declared_as (role name) (role equal) (down_to_assign (left_new (new_member (number (role value)))))))) (role end))
    (second_stands ts _ _ true (later end))
