-- Words and parameters.
use Rattle.std.specs.Prelude.{◌≡◌, ◌+◌, Option, Some}
use Rattle.mb_base.specs.declared.value.StrId.{StrId}
use Rattle.mb_token.specs.declared.token.Token.{Token}
use Rattle.mb_token.specs.declared.token.Token.TheVariants as t
use Rattle.mb_token.specs.declared.word.Word.{Word}
use Rattle.mb_token.specs.declared.word.Soft.{Soft}
use Rattle.mb_token.specs.declared.word.Soft.TheVariants.{Get, Set}
use Rattle.mb_tree.specs.Roses.{Roses, none, more}
use Rattle.mb_grammar.specs.declared.role.Role.TheVariants as r
use Rattle.mb_grammar.specs.declared.function.Property.{Property}
use Rattle.mb_grammar.specs.declared.function.Maker.{Maker}
use Rattle.mb_grammar.specs.declared.function.Maker.TheVariants as mk
use Rattle.mb_grammar.specs.Tokens.{Tokens, Place, token_at, RoleAt}
use Rattle.mb_grammar.specs.Labels.{one_part, param}

-- Word: a name or a reserved word (ECMA-262, 12.7, IdentifierName)
pub data WordText : Option Token → StrId → Type 0 where
  name : {n : StrId} → WordText (Some (t.Name n)) n
  soft : {o : Soft} {n : StrId} → WordText (Some (t.Soft o n)) n
  reserved : {w : Word} {n : StrId} → WordText (Some (t.Reserved w n)) n

-- "get"
pub record GetAt (ts : Tokens) (i : Place) : Type 0 where
  pub text : StrId
  pub is : token_at ts i ≡ Some (t.Soft Get text)

-- "set"
pub record SetAt (ts : Tokens) (i : Place) : Type 0 where
  pub text : StrId
  pub is : token_at ts i ≡ Some (t.Soft Set text)

-- one name or more, with commas between, each a Param
pub data Names (ts : Tokens) : Roses → Place → Place → Type 0 where
  -- Name
  last_name : {n : StrId} {i : Place} → RoleAt ts i (r.Name n) → Names ts (one_part (param n)) i (i + 1)
  -- Name "," Names
  name_and : {n : StrId} {i j : Place} {parts : Roses}
      → RoleAt ts i (r.Name n) → RoleAt ts (i + 1) r.Comma
      → Names ts parts (i + 1 + 1) j
      → Names ts (more (param n) parts) i j

-- parameters, perhaps none; a comma may stand at the end (15.1)
pub data Params (ts : Tokens) : Roses → Place → Place → Type 0 where
  -- nothing
  no_params : {i : Place} → Params ts none i i
  -- Names
  params : {parts : Roses} {i j : Place} → Names ts parts i j → Params ts parts i j
  -- Names ","
  params_comma : {parts : Roses} {i j : Place} → Names ts parts i j → RoleAt ts j r.Comma → Params ts parts i (j + 1)

-- the parameters of what isn't an arrow function
pub data MakerParams (ts : Tokens) : Maker → Roses → Place → Place → Type 0 where
  -- a function's (15.2)
  of_function : {name : Option StrId} {parts : Roses} {i j : Place}
      → Params ts parts i j
      → MakerParams ts (mk.Function name) parts i j
  -- a method's (15.4)
  of_method : {p : Property} {parts : Roses} {i j : Place}
      → Params ts parts i j
      → MakerParams ts (mk.Method p) parts i j
  -- a getter has none (15.4)
  of_getter : {p : Property} {i : Place} → MakerParams ts (mk.Getter p) none i i
  -- a setter has one (15.4)
  of_setter : {p : Property} {n : StrId} {i : Place}
      → RoleAt ts i (r.Name n)
      → MakerParams ts (mk.Setter p) (one_part (param n)) i (i + 1)

-- Head: what stands before "=>" (15.3)
pub data Head (ts : Tokens) : Roses → Place → Place → Type 0 where
  -- Name
  one : {n : StrId} {i : Place} → RoleAt ts i (r.Name n) → Head ts (one_part (param n)) i (i + 1)
  -- "(" Params ")"
  many : {parts : Roses} {i j : Place}
      → RoleAt ts i r.Open
      → Params ts parts (i + 1) j
      → RoleAt ts j r.Close
      → Head ts parts i (j + 1)
