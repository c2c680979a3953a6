-- What a parser of statements has read so far.
use Rattle.std.specs.Prelude.{◌≡◌, ℕ, ◌+◌, ◌≤◌, Bool, true, false, List, [], ◌∷◌, length}
use Rattle.mb_base.specs.declared.value.StrId.{StrId}
use Rattle.mb_token.specs.declared.token.Spanned.{Spanned}
use Rattle.mb_token.specs.declared.word.Word.TheVariants as w
use Rattle.mb_tree.specs.Roses.{Rose, Roses, size}
use Rattle.mb_tree.specs.machine.Operands.{pushed}
use Rattle.mb_grammar.specs.declared.role.Role.TheVariants as r
use Rattle.mb_grammar.specs.declared.level.Level.{Level}
use Rattle.mb_grammar.specs.declared.level.Level.TheVariants as lv
use Rattle.mb_grammar.specs.Tokens.{RoleAt, NoRoleAt, SameLine, WordAt}
use Rattle.mb_grammar.specs.Labels.{param}
use Rattle.mb_grammar.specs.Parts.{Params}
use Rattle.mb_grammar.specs.Grammar.{Stands, Declared, Lets, BlockOf, Perhaps, ForFirst, Caught, Sub, Statement, Statements}
use Rattle.mb_grammar.specs.Script.{Whole}
use Rattle.mb_parse_stmt.specs.declared.terminal.Terminal.TheVariants as p
use Rattle.mb_parse_stmt.specs.declared.machine.Stop.{Stop}
use Rattle.mb_parse_stmt.specs.declared.machine.Stop.TheVariants as st
use Rattle.mb_parse_stmt.specs.declared.machine.Holder.TheVariants as ho
use Rattle.mb_parse_stmt.specs.declared.machine.Declarer.TheVariants as de
use Rattle.mb_parse_stmt.specs.declared.machine.Frame.{Frame}
use Rattle.mb_parse_stmt.specs.declared.machine.Frame.TheVariants as f
use Rattle.mb_parse_stmt.specs.declared.machine.Mode.TheVariants as mo
use Rattle.mb_parse_stmt.specs.machine.Terminals.{terminal_at}
use Rattle.mb_parse_stmt.specs.machine.Machine.{State, Going, Wants, Ends, Fails, Stuck}

-- n statements
pub data Counted (ts : List Spanned) : ℕ → List Rose → List Rose → ℕ → ℕ → Type 0 where
  no_statement : {rs : List Rose} {i : ℕ} → Counted ts 0 rs rs i i
  one_more : {n m : ℕ} {a : Rose} {rs rs' : List Rose} {i j k : ℕ} → Counted ts n rs rs' i j → Statement ts a j k → m ≡ n + 1 → Counted ts m rs (a ∷ rs') i k

-- n declarations, each with a comma behind it
pub data Commas (ts : List Spanned) (fixed : Bool) : ℕ → List Rose → List Rose → ℕ → ℕ → Type 0 where
  no_comma : {rs : List Rose} {i : ℕ} → Commas ts fixed 0 rs rs i i
  comma_more : {n m : ℕ} {a : Rose} {rs rs' : List Rose} {i j k k' : ℕ} → Commas ts fixed n rs rs' i j → Declared ts fixed a j k → RoleAt ts k r.Comma → m ≡ n + 1 → k' ≡ k + 1 → Commas ts fixed m rs (a ∷ rs') i k'

-- n parameters, each with a comma behind it
pub data NameCommas (ts : List Spanned) : ℕ → List Rose → List Rose → ℕ → ℕ → Type 0 where
  no_name : {rs : List Rose} {i : ℕ} → NameCommas ts 0 rs rs i i
  name_more : {n m : ℕ} {x : StrId} {rs rs' : List Rose} {i j k : ℕ} → NameCommas ts n rs rs' i j → RoleAt ts j (r.Name x) → RoleAt ts (j + 1) r.Comma → m ≡ n + 1 → k ≡ j + 1 + 1 → NameCommas ts m rs (param x ∷ rs') i k

-- a function declaration up to its first parameter
pub record Titled (ts : List Spanned) (n : StrId) (i : ℕ) : Type 0 where
  pub function : RoleAt ts i r.Function
  pub name : RoleAt ts (i + 1) (r.Name n)
  pub paren : RoleAt ts (i + 1 + 1) r.Open

-- for (
pub record ForOpen (ts : List Spanned) (i : ℕ) : Type 0 where
  pub word : WordAt ts i w.For
  pub paren : RoleAt ts (i + 1) r.Open

-- and its first part, where parts are the trees before rs'
pub record ForOne (ts : List Spanned) (a : Bool) (rs rs' : List Rose) (i k : ℕ) : Type 0 where
  pub opens : ForOpen ts i
  pub x : Roses
  pub m : ℕ
  pub first : ForFirst ts a x (i + 1 + 1) m
  pub semicolon : RoleAt ts m r.Semicolon
  pub operands : rs' ≡ pushed x rs
  pub place : k ≡ m + 1

-- and its test
pub record ForTwo (ts : List Spanned) (a b : Bool) (rs rs' : List Rose) (i k : ℕ) : Type 0 where
  pub between : List Rose
  pub m : ℕ
  pub one : ForOne ts a rs between i m
  pub y : Roses
  pub n : ℕ
  pub test : Perhaps ts b y m n
  pub semicolon : RoleAt ts n r.Semicolon
  pub operands : rs' ≡ pushed y between
  pub place : k ≡ n + 1

-- and the end of its head
pub record ForThree (ts : List Spanned) (a b c : Bool) (rs rs' : List Rose) (i k : ℕ) : Type 0 where
  pub between : List Rose
  pub m : ℕ
  pub two : ForTwo ts a b rs between i m
  pub z : Roses
  pub n : ℕ
  pub last : Perhaps ts c z m n
  pub close : RoleAt ts n r.Close
  pub operands : rs' ≡ pushed z between
  pub place : k ≡ n + 1

-- what a catch has before its block
pub data CatchHead (ts : List Spanned) : Bool → List Rose → List Rose → ℕ → ℕ → Type 0 where
  nameless : {rs : List Rose} {i : ℕ} → WordAt ts i w.Catch → CatchHead ts false rs rs i (i + 1)
  head_named : {x : StrId} {rs : List Rose} {i : ℕ} → WordAt ts i w.Catch → RoleAt ts (i + 1) r.Open → RoleAt ts (i + 1 + 1) (r.Name x) → RoleAt ts (i + 1 + 1 + 1) r.Close → CatchHead ts true rs (param x ∷ rs) i (i + 1 + 1 + 1 + 1)

module _ (ts : List Spanned) (start : ℕ) where
  mutual
    -- the frames and operands cover the tokens from start up to this place, where a statement of a list is wanted
    pub data Lists : List Frame → List Rose → ℕ → Type 0 where
      top_list : {n : ℕ} {rs : List Rose} {k : ℕ} → start ≤ length ts → Counted ts n [] rs start k → Lists (f.Statements ho.Top n ∷ []) rs k
      block_list : {n : ℕ} {fs : List Frame} {rs rs' : List Rose} {i k : ℕ} → Blocks fs rs i → RoleAt ts i r.OpenBrace → Counted ts n rs rs' (i + 1) k → Lists (f.Statements ho.Block n ∷ fs) rs' k
      body_list : {x : StrId} {n count : ℕ} {parts : Roses} {fs : List Frame} {rs rs' : List Rose} {i m k : ℕ} → Lists fs rs i → Titled ts x i → Params ts parts (i + 1 + 1 + 1) m → RoleAt ts m r.Close → RoleAt ts (m + 1) r.OpenBrace → count ≡ size parts → Counted ts n (pushed parts rs) rs' (m + 1 + 1) k → Lists (f.Statements (ho.Body x count) n ∷ fs) rs' k

    -- where a statement that may stand below another is
    pub data Subs : List Frame → List Rose → ℕ → Type 0 where
      sub_list : {fs : List Frame} {rs : List Rose} {i : ℕ} → Lists fs rs i → Subs fs rs i
      in_then : {a : Rose} {es : List ℕ} {fs : List Frame} {rs : List Rose} {i m k : ℕ} → Subs fs rs i → WordAt ts i w.If → RoleAt ts (i + 1) r.Open → Stands ts 1 a [] es (i + 1 + 1) m → RoleAt ts m r.Close → k ≡ m + 1 → Subs (f.IfThen ∷ fs) (a ∷ rs) k
      in_else : {a b : Rose} {es : List ℕ} {fs : List Frame} {rs : List Rose} {i m n k : ℕ} → Subs fs rs i → WordAt ts i w.If → RoleAt ts (i + 1) r.Open → Stands ts 1 a [] es (i + 1 + 1) m → RoleAt ts m r.Close → Sub ts b (m + 1) n → WordAt ts n w.Else → k ≡ n + 1 → Subs (f.IfElse ∷ fs) (b ∷ a ∷ rs) k
      in_while : {a : Rose} {es : List ℕ} {fs : List Frame} {rs : List Rose} {i m k : ℕ} → Subs fs rs i → WordAt ts i w.While → RoleAt ts (i + 1) r.Open → Stands ts 1 a [] es (i + 1 + 1) m → RoleAt ts m r.Close → k ≡ m + 1 → Subs (f.WhileBody ∷ fs) (a ∷ rs) k
      in_do : {fs : List Frame} {rs : List Rose} {i k : ℕ} → Subs fs rs i → WordAt ts i w.Do → k ≡ i + 1 → Subs (f.DoBody ∷ fs) rs k
      in_for : {a b c : Bool} {fs : List Frame} {rs rs' : List Rose} {i k : ℕ} → Subs fs rs i → ForThree ts a b c rs rs' i k → Subs (f.ForBody a b c ∷ fs) rs' k

    -- where a block is
    pub data Blocks : List Frame → List Rose → ℕ → Type 0 where
      block_sub : {fs : List Frame} {rs : List Rose} {i : ℕ} → Subs fs rs i → Blocks fs rs i
      in_try : {fs : List Frame} {rs : List Rose} {i k : ℕ} → Subs fs rs i → WordAt ts i w.Try → k ≡ i + 1 → Blocks (f.TryBlock ∷ fs) rs k
      in_catch : {named : Bool} {b : Rose} {fs : List Frame} {rs rs' : List Rose} {i m k : ℕ} → Subs fs rs i → WordAt ts i w.Try → BlockOf ts b (i + 1) m → CatchHead ts named (b ∷ rs) rs' m k → Blocks (f.CatchBlock named ∷ fs) rs' k
      in_finally : {caught named : Bool} {b : Rose} {x : Roses} {fs : List Frame} {rs rs' : List Rose} {i m n k : ℕ} → Subs fs rs i → WordAt ts i w.Try → BlockOf ts b (i + 1) m → Caught ts caught named x m n → WordAt ts n w.Finally → rs' ≡ pushed x (b ∷ rs) → k ≡ n + 1 → Blocks (f.FinallyBlock caught named ∷ fs) rs' k

  -- and that statement has been read
  pub data Dones : List Frame → List Rose → ℕ → Type 0 where
    done_statement : {a : Rose} {fs : List Frame} {rs : List Rose} {i k : ℕ} → Lists fs rs i → Statement ts a i k → Dones fs (a ∷ rs) k
    done_sub : {a : Rose} {fs : List Frame} {rs : List Rose} {i k : ℕ} → Subs fs rs i → Sub ts a i k → Dones fs (a ∷ rs) k
    done_block : {a : Rose} {fs : List Frame} {rs : List Rose} {i k : ℕ} → Blocks fs rs i → BlockOf ts a i k → Dones fs (a ∷ rs) k

  -- a part of the head of a for, or nothing, is wanted
  pub data Parts : List Frame → List Rose → ℕ → Type 0 where
    part_first : {fs : List Frame} {rs : List Rose} {i k : ℕ} → Subs fs rs i → ForOpen ts i → k ≡ i + 1 + 1 → Parts (f.ForFirst ∷ fs) rs k
    part_test : {a : Bool} {fs : List Frame} {rs rs' : List Rose} {i k : ℕ} → Subs fs rs i → ForOne ts a rs rs' i k → Parts (f.ForTest a ∷ fs) rs' k
    part_last : {a b : Bool} {fs : List Frame} {rs rs' : List Rose} {i k : ℕ} → Subs fs rs i → ForTwo ts a b rs rs' i k → Parts (f.ForLast a b ∷ fs) rs' k

  -- a declaration is wanted, which has a value where this is true
  pub data Declarings : Bool → List Frame → List Rose → ℕ → Type 0 where
    in_let : {n : ℕ} {fs : List Frame} {rs rs' : List Rose} {i k : ℕ} → Lists fs rs i → WordAt ts i w.Let → Commas ts false n rs rs' (i + 1) k → Declarings false (f.Declarations de.Let n ∷ fs) rs' k
    in_const : {n : ℕ} {fs : List Frame} {rs rs' : List Rose} {i k : ℕ} → Lists fs rs i → WordAt ts i w.Const → Commas ts true n rs rs' (i + 1) k → Declarings true (f.Declarations de.Const n ∷ fs) rs' k
    in_for_let : {n : ℕ} {fs : List Frame} {rs rs' : List Rose} {i k : ℕ} → Subs fs rs i → ForOpen ts i → WordAt ts (i + 1 + 1) w.Let → Commas ts false n rs rs' (i + 1 + 1 + 1) k → Declarings false (f.Declarations de.ForLet n ∷ f.ForFirst ∷ fs) rs' k

  pub data Declareds : List Frame → List Rose → ℕ → Type 0 where
    declared_one : {fixed : Bool} {a : Rose} {fs : List Frame} {rs : List Rose} {i k : ℕ} → Declarings fixed fs rs i → Declared ts fixed a i k → k ≤ length ts → Declareds fs (a ∷ rs) k

  -- an expression of the level is wanted
  pub data Askings : Level → List Frame → List Rose → ℕ → Type 0 where
    ask_if : {fs : List Frame} {rs : List Rose} {i k : ℕ} → Subs fs rs i → WordAt ts i w.If → RoleAt ts (i + 1) r.Open → k ≡ i + 1 + 1 → Askings lv.Expr (f.IfTest ∷ fs) rs k
    ask_while : {fs : List Frame} {rs : List Rose} {i k : ℕ} → Subs fs rs i → WordAt ts i w.While → RoleAt ts (i + 1) r.Open → k ≡ i + 1 + 1 → Askings lv.Expr (f.WhileTest ∷ fs) rs k
    ask_do : {b : Rose} {fs : List Frame} {rs : List Rose} {i m k : ℕ} → Subs fs rs i → WordAt ts i w.Do → Sub ts b (i + 1) m → WordAt ts m w.While → RoleAt ts (m + 1) r.Open → k ≡ m + 1 + 1 → Askings lv.Expr (f.DoTest ∷ fs) (b ∷ rs) k
    ask_part : {fs : List Frame} {rs : List Rose} {i : ℕ} → Parts fs rs i → Askings lv.Expr fs rs i
    ask_return : {fs : List Frame} {rs : List Rose} {i k : ℕ} → Subs fs rs i → WordAt ts i w.Return → SameLine ts (i + 1) → k ≡ i + 1 → Askings lv.Expr (f.Return ∷ fs) rs k
    ask_throw : {fs : List Frame} {rs : List Rose} {i k : ℕ} → Subs fs rs i → WordAt ts i w.Throw → SameLine ts (i + 1) → k ≡ i + 1 → Askings lv.Expr (f.Throw ∷ fs) rs k
    ask_expression : {fs : List Frame} {rs : List Rose} {i : ℕ} → Subs fs rs i → NoRoleAt ts i r.OpenBrace → NoRoleAt ts i r.Function → Askings lv.Expr (f.Expression ∷ fs) rs i
    ask_value : {fixed : Bool} {x : StrId} {fs : List Frame} {rs : List Rose} {i k : ℕ} → Declarings fixed fs rs i → RoleAt ts i (r.Name x) → RoleAt ts (i + 1) r.Becomes → k ≡ i + 1 + 1 → Askings lv.Assign (f.Value x ∷ fs) rs k

  -- an expression has been read, or what let declares in the head of a for
  pub data Behinds : List Frame → List Rose → ℕ → Type 0 where
    behind_expression : {level : Level} {a : Rose} {es : List ℕ} {fs : List Frame} {rs : List Rose} {i k : ℕ} → Askings level fs rs i → Whole ts level a es i k → Behinds fs (a ∷ rs) k
    behind_lets : {a : Rose} {fs : List Frame} {rs : List Rose} {i k : ℕ} → Subs fs rs i → ForOpen ts i → Lets ts a (i + 1 + 1) k → RoleAt ts k r.Semicolon → Behinds (f.ForFirst ∷ fs) (a ∷ rs) k

  -- n parameters and commas
  pub data InParams : List Frame → List Rose → ℕ → Type 0 where
    in_params : {x : StrId} {n : ℕ} {fs : List Frame} {rs rs' : List Rose} {i k : ℕ} → Lists fs rs i → Titled ts x i → NameCommas ts n rs rs' (i + 1 + 1 + 1) k → InParams (f.Params x n ∷ fs) rs' k

  -- and one more parameter
  pub data InComma : List Frame → List Rose → ℕ → Type 0 where
    in_comma : {x y : StrId} {n : ℕ} {fs : List Frame} {rs rs' : List Rose} {i j k : ℕ} → Lists fs rs i → Titled ts x i → NameCommas ts n rs rs' (i + 1 + 1 + 1) j → RoleAt ts j (r.Name y) → k ≡ j + 1 → InComma (f.Params x n ∷ fs) (param y ∷ rs') k

  pub data CatchNames : List Frame → List Rose → ℕ → Type 0 where
    catch_name : {b : Rose} {fs : List Frame} {rs : List Rose} {i m k : ℕ} → Subs fs rs i → WordAt ts i w.Try → BlockOf ts b (i + 1) m → WordAt ts m w.Catch → RoleAt ts (m + 1) r.Open → k ≡ m + 1 + 1 → CatchNames (f.CatchBlock true ∷ fs) (b ∷ rs) k

-- statements that aren't within others end here
abbrev pub IsStop : Stop → List Spanned → ℕ → Type 0
IsStop st.End ts k = terminal_at ts k ≡ p.End
IsStop st.Brace ts k = RoleAt ts k r.CloseBrace

abbrev pub Good : Stop → List Spanned → ℕ → State → Type 0
Good stop ts start (Going fs rs mo.Statement at) = Lists ts start fs rs at
Good stop ts start (Going fs rs mo.Sub at) = Subs ts start fs rs at
Good stop ts start (Going fs rs mo.Done at) = Dones ts start fs rs at
Good stop ts start (Going fs rs (mo.Expression level) at) = Askings ts start level fs rs at
Good stop ts start (Going fs rs mo.Behind at) = Behinds ts start fs rs at
Good stop ts start (Going fs rs mo.Part at) = Parts ts start fs rs at
Good stop ts start (Going fs rs mo.Declaration at) = (fixed : Bool) × Declarings ts start fixed fs rs at
Good stop ts start (Going fs rs mo.Declared at) = Declareds ts start fs rs at
Good stop ts start (Going fs rs mo.Param at) = InParams ts start fs rs at
Good stop ts start (Going fs rs mo.Comma at) = InComma ts start fs rs at
Good stop ts start (Going fs rs mo.Brace at) = Blocks ts start fs rs at
Good stop ts start (Going fs rs mo.CatchName at) = CatchNames ts start fs rs at
Good stop ts start (Wants level fs rs at) = Askings ts start level fs rs at
Good stop ts start (Ends rs at) = (parts : Roses) × (rs ≡ pushed parts []) × Statements ts parts start at × IsStop stop ts at
Good stop ts start Fails = Unit {0}
Good stop ts start Stuck = ⊥
