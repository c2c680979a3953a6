-- The tokens of the left script are statements.
use Rattle.std.proofs.Common.{ℕ, Bool, true, false, List, [], ◌∷◌, zero, suc, length, refl, subst, arith}
use Rattle.std.specs.Prelude.{pos}
use Rattle.mb_token.specs.declared.token.Spanned.{Spanned}
use Rattle.mb_token.specs.declared.mark.Mark.TheVariants as m
use Rattle.mb_token.specs.declared.word.Word.TheVariants as w
use Rattle.mb_tree.specs.declared.kind.Kind.TheVariants as k
use Rattle.mb_tree.specs.Roses.{Rose, Roses, node, none, more, bare, named, numbered}
use Rattle.mb_grammar.specs.declared.role.Role.TheVariants as r
use Rattle.mb_grammar.specs.Grammar.{Stands, left_new, left_call, new_member, assign, member, call, name_of, number, array, object, last_of, nothing, elements, key_word, getter, made, valued, maker_of, last_property, properties, expression, returns_with, Statement, sub, Statements, finished, statement}
use Rattle.mb_grammar.specs.Parts.{of_getter}
use Rattle.mb_grammar.specs.Labels.{value_label, made_label, named_property}
use Rattle.mb_grammar.specs.declared.function.Maker.TheVariants as mk
use Rattle.mb_load_tree.proofs.Pieces.{Piece, tokens}
use Rattle.mb_load_tree.proofs.Lines.{id, sign, first_line, object_of, element_of, line_end, line_of, lines_of}
use Rattle.mb_load_tree.proofs.Runs.{Run, ends_at, later, role, text_here, word_here, get_here, same_line, no_role, down_to_assign, down_from_assign}

-- no token is left
pub finish : {ts : List Spanned} {i : ℕ} → Run ts i [] → Statements ts none i (length ts)
finish {ts} {i} run = subst (λ n. Statements ts none i n) (ends_at run) finished

-- trees

abbrev pub desk : Rose
desk = node (named k.Name (id 0)) none

abbrev pub desk_list : Rose
desk_list = node (named k.Member (id 1)) (more desk none)

abbrev pub number_of : ℕ → Rose
number_of n = node (numbered k.Number (pos n)) none

abbrev pub object_tree : ℕ → Rose
object_tree n = node (bare k.ObjectLit) (more (node (value_label (named_property (id 5))) (more (number_of n) none)) none)

abbrev pub getter_tree : ℕ → Rose
getter_tree n = node (made_label (mk.Getter (named_property (id 5))) 0) (more (node (bare k.Return) (more (number_of n) none)) none)

abbrev pub element_tree : ℕ → ℕ → Rose
element_tree zero n = object_tree n
element_tree (suc zero) n = node (bare k.Call) (more (node (named k.Member (id 4)) (more (node (named k.Name (id 3)) none) none)) (more (object_tree n) none))
element_tree (suc (suc zero)) n = node (bare k.ObjectLit) (more (getter_tree n) none)
element_tree _ n = node (bare k.ArrayLit) (more (number_of n) none)

abbrev pub push_tree : ℕ → ℕ → Rose
push_tree kind n = node (bare k.ExprStmt) (more (node (bare k.Call) (more (node (named k.Member (id 2)) (more desk_list none)) (more (element_tree kind n) none))) none)

abbrev pub first_tree : Rose
first_tree = node (bare k.ExprStmt) (more (node (bare k.Assign) (more desk_list (more (node (bare k.ArrayLit) none) none))) none)

abbrev pub line_trees : List (ℕ × ℕ) → Roses
line_trees [] = none
line_trees (l ∷ ls) = more (push_tree l.0 l.1) (line_trees ls)

-- an element stands, and then the rest
pub record After (ts : List Spanned) (level : ℕ) (tree : Rose) (i : ℕ) (rest : List Piece) : Type 0 where
  pub bodies : List ℕ
  pub to : ℕ
  pub at : ℕ
  pub stands : Stands ts level tree [] bodies i to
  pub run : Run ts to (tokens at false rest)

object_after : (ts : List Spanned) (i at n : ℕ) (rest : List Piece) → Run ts i (tokens at false (object_of n rest)) → After ts 15 (object_tree n) i rest
object_after ts i at n rest brace =
    let key = later brace in
    let colon = later key in
    let value = later colon in
    let closing = later value in
    record {
      bodies = [];
      to = _;
      at = _;
      stands = left_new (new_member (object (role brace) (properties (last_property (valued (key_word (text_here (id 5) key refl)) (role colon) (down_to_assign (left_new (new_member (number (role value)))))))) (role closing)));
      run = later closing;
    }

array_after : (ts : List Spanned) (i at n kind : ℕ) (rest : List Piece) → Run ts i (tokens at false (element_of (suc (suc (suc kind))) n rest)) → After ts 15 (element_tree (suc (suc (suc kind))) n) i rest
array_after ts i at n kind rest bracket =
    let value = later bracket in
    let closing = later value in
    record {
      bodies = [];
      to = _;
      at = _;
      stands = left_new (new_member (array (role bracket) (elements (last_of (down_to_assign (left_new (new_member (number (role value))))))) (role closing)));
      run = later closing;
    }

frozen_after : (ts : List Spanned) (i at n : ℕ) (rest : List Piece) → Run ts i (tokens at false (element_of 1 n rest)) → After ts 15 (element_tree 1 n) i rest
frozen_after ts i at n rest holder =
    let dot = later holder in
    let word = later dot in
    let opening = later word in
    let inner = object_after ts _ _ n (sign m.CloseParen ∷ rest) (later opening) in
    record {
      bodies = inner.bodies;
      to = _;
      at = _;
      stands = left_call (call {l = 18} (omega arith) (member {l = 18} (omega arith) (name_of (role holder)) (role dot) (text_here (id 4) word refl)) (role opening) (elements (last_of (down_to_assign inner.stands))) (role inner.run));
      run = later inner.run;
    }

getter_after : (ts : List Spanned) (i at n : ℕ) (rest : List Piece) → Run ts i (tokens at false (element_of 2 n rest)) → After ts 15 (element_tree 2 n) i rest
getter_after ts i at n rest brace =
    let get = later brace in
    let key = later get in
    let opening = later key in
    let closing = later opening in
    let inner = later closing in
    let returned = later inner in
    let value = later returned in
    let semicolon = later value in
    let inner_end = later semicolon in
    let end = later inner_end in
    record {
      bodies = _;
      to = _;
      at = _;
      stands = left_new (new_member (object (role brace)
          (properties (last_property (maker_of tt (made (getter (get_here (id 6) get refl) (key_word (text_here (id 5) key refl))) (role opening) of_getter (role closing) (role inner)
          (statement (sub (returns_with (word_here w.Return (id 7) returned refl) (same_line value refl) (down_from_assign (down_to_assign (left_new (new_member (number (role value)))))) (role semicolon))) finished) (role inner_end)))))
          (role end)));
      run = later end;
    }

element_after : (ts : List Spanned) (i at kind n : ℕ) (rest : List Piece) → Run ts i (tokens at false (element_of kind n rest)) → After ts 15 (element_tree kind n) i rest
element_after ts i at zero n rest run = object_after ts i at n rest run
element_after ts i at (suc zero) n rest run = frozen_after ts i at n rest run
element_after ts i at (suc (suc zero)) n rest run = getter_after ts i at n rest run
element_after ts i at (suc (suc (suc kind))) n rest run = array_after ts i at n kind rest run

-- a statement stands, and then the rest
pub record Behind (ts : List Spanned) (tree : Rose) (i : ℕ) (rest : List Piece) : Type 0 where
  pub to : ℕ
  pub at : ℕ
  pub stands : Statement ts tree i to
  pub run : Run ts to (tokens at true rest)

push_behind : (ts : List Spanned) (i at : ℕ) (line : Bool) (kind n : ℕ) (rest : List Piece) → Run ts i (tokens at line (line_of kind n rest)) → Behind ts (push_tree kind n) i rest
push_behind ts i at line kind n rest first =
    let dot = later first in
    let list = later dot in
    let dot_again = later list in
    let push = later dot_again in
    let opening = later push in
    let inner = element_after ts _ _ kind n (line_end rest) (later opening) in
    let closing = inner.run in
    let semicolon = later closing in
    record {
      to = _;
      at = _;
      stands = sub (expression (no_role r.OpenBrace first (λ e. cc)) (no_role r.Function first (λ e. cc))
          (down_from_assign (down_to_assign (left_call (call {l = 18} (omega arith)
          (member {l = 18} (omega arith) (member {l = 18} (omega arith) (name_of (role first)) (role dot) (text_here (id 1) list refl)) (role dot_again) (text_here (id 2) push refl))
          (role opening) (elements (last_of (down_to_assign inner.stands))) (role closing)))))
          (role semicolon));
      run = later semicolon;
    }

first_behind : (ts : List Spanned) (i at : ℕ) (line : Bool) (rest : List Piece) → Run ts i (tokens at line (first_line rest)) → Behind ts first_tree i rest
first_behind ts i at line rest first =
    let dot = later first in
    let list = later dot in
    let equal = later list in
    let opening = later equal in
    let closing = later opening in
    let semicolon = later closing in
    record {
      to = _;
      at = _;
      stands = sub (expression (no_role r.OpenBrace first (λ e. cc)) (no_role r.Function first (λ e. cc))
          (down_from_assign (assign (left_new (new_member (member {l = 18} (omega arith) (name_of (role first)) (role dot) (text_here (id 1) list refl)))) (role equal)
          (down_to_assign (left_new (new_member (array (role opening) nothing (role closing)))))))
          (role semicolon));
      run = later semicolon;
    }

lines_behind : (ts : List Spanned) (ls : List (ℕ × ℕ)) (i at : ℕ) (line : Bool) → Run ts i (tokens at line (lines_of ls)) → Statements ts (line_trees ls) i (length ts)
lines_behind ts [] i at line run = finish run
lines_behind ts (l ∷ ls) i at line run =
    let first = push_behind ts i at line l.0 l.1 (lines_of ls) run in
    statement first.stands (lines_behind ts ls first.to first.at true first.run)

pub left_statements : (ts : List Spanned) (ls : List (ℕ × ℕ)) → Run ts 0 (tokens 0 false (first_line (lines_of ls))) → Statements ts (more first_tree (line_trees ls)) 0 (length ts)
left_statements ts ls run =
    let first = first_behind ts 0 0 false (lines_of ls) run in
    statement first.stands (lines_behind ts ls first.to first.at true first.run)
