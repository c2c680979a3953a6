-- The grammar of scripts (ECMA-262, 13 to 16, cut to what is read).
--
-- Each relation says that the tokens from one place up to another are a tree: `Statement ts tree i j` speaks of the
-- tokens i, i + 1 .. j - 1 of ts. Above each constructor stands its production; it has one premise for each tree in it,
-- and premises of tokens in a row share a line.
--
-- The relations of expressions speak of function bodies in braces too, by the places where their statements begin, the
-- last one first: in `Stands ts nonterminal tree ds es i j` ds are those before place i, es those before place j. What
-- stands within such a body isn't among them. So an expression that begins with no bodies, [], lists its own in es.
use Rattle.std.specs.Prelude.{◌≡◌, ℤ, suc, ◌+◌, ◌<◌, ◌≤◌, Bool, true, false, List, [], ◌∷◌, Some, None}
use Rattle.mb_base.specs.declared.value.StrId.{StrId}
use Rattle.mb_token.specs.declared.token.Token.TheVariants as t
use Rattle.mb_token.specs.declared.word.Word.TheVariants as w
use Rattle.mb_tree.specs.declared.kind.Kind.TheVariants as k
use Rattle.mb_tree.specs.declared.kind.Sign.{Sign}
use Rattle.mb_tree.specs.declared.kind.Sign.TheVariants as s
use Rattle.mb_tree.specs.declared.kind.Fixed.{Fixed}
use Rattle.mb_tree.specs.Roses.{Rose, Roses, node, none, more, bare, named, numbered, size, join}
use Rattle.mb_grammar.specs.declared.role.Role.TheVariants as r
use Rattle.mb_grammar.specs.declared.function.Property.{Property}
use Rattle.mb_grammar.specs.declared.function.Maker.{Maker}
use Rattle.mb_grammar.specs.declared.function.Maker.TheVariants as mk
use Rattle.mb_grammar.specs.Tokens.{Tokens, Place, token_at, RoleAt, NoRoleAt, SameLine, TokenAt, WordAt}
use Rattle.mb_grammar.specs.Nonterminals as nt
use Rattle.mb_grammar.specs.Nonterminals.{Nonterminal, level_of}
use Rattle.mb_grammar.specs.Labels.{one_part, two_parts, three_parts, param, named_property, whole_property, computed_property, value_label, made_node, IsFunction, IsProperty}
use Rattle.mb_grammar.specs.Parts.{WordText, GetAt, SetAt, Params, MakerParams, Head}

-- the places where bodies in braces begin, the last one first
abbrev pub Bodies : Type 0
Bodies = List Place

mutual
  -- an expression of a level
  pub data Stands (ts : Tokens) : Nonterminal → Rose → Bodies → Bodies → Place → Place → Type 0 where
    -- what is of the next level up
    lift : {l : Nonterminal} {a : Rose} {ds es : Bodies} {i j : Place}
        → l < nt.Left
        → Stands ts (suc l) a ds es i j
        → Stands ts l a ds es i j
    -- Left = New (13.3)
    left_new : {a : Rose} {ds es : Bodies} {i j : Place} → Stands ts nt.New a ds es i j → Stands ts nt.Left a ds es i j
    -- Left = Call (13.3)
    left_call : {a : Rose} {ds es : Bodies} {i j : Place}
        → Stands ts nt.Call a ds es i j
        → Stands ts nt.Left a ds es i j
    -- New = Member (13.3)
    new_member : {a : Rose} {ds es : Bodies} {i j : Place}
        → Stands ts nt.Member a ds es i j
        → Stands ts nt.New a ds es i j
    -- Expr = Assign ("," Assign)+ (13.16)
    seq : {a : Rose} {parts : Roses} {ds es gs : Bodies} {i m j : Place}
        → Stands ts nt.Assign a ds es i m
        → RoleAt ts m r.Comma
        → Listed ts parts es gs (m + 1) j
        → Stands ts nt.Expr (node (bare k.Seq) (more a parts)) ds gs i j
    -- Assign = Left "=" Assign (13.15)
    assign : {a b : Rose} {ds es gs : Bodies} {i m j : Place}
        → Stands ts nt.Left a ds es i m
        → RoleAt ts m r.Becomes
        → Stands ts nt.Assign b es gs (m + 1) j
        → Stands ts nt.Assign (node (bare k.Assign) (two_parts a b)) ds gs i j
    -- Assign = Left "+=" Assign, and so for "-=" and "*=" (13.15)
    compound : {sign : Sign} {a b : Rose} {ds es gs : Bodies} {i m j : Place}
        → Stands ts nt.Left a ds es i m
        → RoleAt ts m (r.Compound sign)
        → Stands ts nt.Assign b es gs (m + 1) j
        → Stands ts nt.Assign (node (bare (k.Compound sign)) (two_parts a b)) ds gs i j
    -- Assign = Head "=>" Assign, no line end before "=>", and the value doesn't begin with "{" (15.3)
    arrow_value : {parts : Roses} {b : Rose} {ds es : Bodies} {i m j : Place}
        → Head ts parts i m
        → RoleAt ts m r.Arrow → SameLine ts m
        → NoRoleAt ts (m + 1) r.OpenBrace
        → Stands ts nt.Assign b ds es (m + 1) j
        → Stands ts nt.Assign (node (bare (k.Arrow (size parts) false)) (join parts (one_part b))) ds es i j
    -- Assign = Head "=>" "{" Statement* "}", no line end before "=>" (15.3)
    arrow_block : {parts body : Roses} {ds : Bodies} {i m j : Place}
        → Head ts parts i m
        → RoleAt ts m r.Arrow → SameLine ts m → RoleAt ts (m + 1) r.OpenBrace
        → Statements ts body (m + 1 + 1) j
        → RoleAt ts j r.CloseBrace
        → Stands ts nt.Assign (made_node mk.Arrow none parts body) ds ((m + 1 + 1) ∷ ds) i (j + 1)
    -- Cond = Or "?" Assign ":" Assign (13.14)
    cond : {a b c : Rose} {ds es gs hs : Bodies} {i m n j : Place}
        → Stands ts nt.Or a ds es i m
        → RoleAt ts m r.Question
        → Stands ts nt.Assign b es gs (m + 1) n
        → RoleAt ts n r.Colon
        → Stands ts nt.Assign c gs hs (n + 1) j
        → Stands ts nt.Cond (node (bare k.Cond) (three_parts a b c)) ds hs i j
    -- Or = And "||" Or (13.13)
    or : {a b : Rose} {ds es gs : Bodies} {i m j : Place}
        → Stands ts nt.And a ds es i m
        → RoleAt ts m r.Or
        → Stands ts nt.Or b es gs (m + 1) j
        → Stands ts nt.Or (node (bare k.Or) (two_parts a b)) ds gs i j
    -- And = Equal "&&" And (13.13)
    and_also : {a b : Rose} {ds es gs : Bodies} {i m j : Place}
        → Stands ts nt.Equal a ds es i m
        → RoleAt ts m r.And
        → Stands ts nt.And b es gs (m + 1) j
        → Stands ts nt.And (node (bare k.And) (two_parts a b)) ds gs i j
    -- an operator of two operands, which groups to the left (13.7, 13.8, 13.10, 13.11)
    binary : {sign : Sign} {a b : Rose} {ds es gs : Bodies} {i m j : Place}
        → Stands ts (level_of sign) a ds es i m
        → RoleAt ts m (r.Infix sign)
        → Stands ts (suc (level_of sign)) b es gs (m + 1) j
        → Stands ts (level_of sign) (node (bare (k.Binary sign)) (two_parts a b)) ds gs i j
    -- Unary = ("!" or "typeof" or "delete") Unary (13.5)
    unary : {sign : Sign} {a : Rose} {ds es : Bodies} {i j : Place}
        → RoleAt ts i (r.Prefix sign)
        → Stands ts nt.Unary a ds es (i + 1) j
        → Stands ts nt.Unary (node (bare (k.Unary sign)) (one_part a)) ds es i j
    -- Unary = "-" Unary (13.5.5)
    negative : {a : Rose} {ds es : Bodies} {i j : Place}
        → RoleAt ts i (r.Infix s.Minus)
        → Stands ts nt.Unary a ds es (i + 1) j
        → Stands ts nt.Unary (node (bare (k.Unary s.Minus)) (one_part a)) ds es i j
    -- Unary = ("++" or "--") Unary (13.4)
    before : {plus : Bool} {a : Rose} {ds es : Bodies} {i j : Place}
        → RoleAt ts i (r.Step plus)
        → Stands ts nt.Unary a ds es (i + 1) j
        → Stands ts nt.Unary (node (bare (k.Update plus true)) (one_part a)) ds es i j
    -- Unary = Left ("++" or "--"), no line end before the mark (13.4)
    behind : {plus : Bool} {a : Rose} {ds es : Bodies} {i m : Place}
        → Stands ts nt.Left a ds es i m
        → RoleAt ts m (r.Step plus) → SameLine ts m
        → Stands ts nt.Unary (node (bare (k.Update plus false)) (one_part a)) ds es i (m + 1)
    -- New = "new" New (13.3.5)
    new_new : {a : Rose} {ds es : Bodies} {i j : Place}
        → RoleAt ts i r.New
        → Stands ts nt.New a ds es (i + 1) j
        → Stands ts nt.New (node (bare k.New) (one_part a)) ds es i j
    -- Member = "new" Member "(" Elements ")" (13.3.5)
    new_args : {a : Rose} {parts : Roses} {ds es gs : Bodies} {i m j : Place}
        → RoleAt ts i r.New
        → Stands ts nt.Member a ds es (i + 1) m
        → RoleAt ts m r.Open
        → Elements ts parts es gs (m + 1) j
        → RoleAt ts j r.Close
        → Stands ts nt.Member (node (bare k.New) (more a parts)) ds gs i (j + 1)
    -- Member = Member "." Word, and so for Call (13.3.2)
    member : {l : Nonterminal} {n : StrId} {a : Rose} {ds es : Bodies} {i m : Place}
        → nt.Call ≤ l
        → Stands ts l a ds es i m
        → RoleAt ts m r.Dot → WordText (token_at ts (m + 1)) n
        → Stands ts l (node (named k.Member n) (one_part a)) ds es i (m + 1 + 1)
    -- Member = Member "[" Expr "]", and so for Call (13.3.2)
    index : {l : Nonterminal} {a b : Rose} {ds es gs : Bodies} {i m j : Place}
        → nt.Call ≤ l
        → Stands ts l a ds es i m
        → RoleAt ts m r.OpenSquare
        → Stands ts nt.Expr b es gs (m + 1) j
        → RoleAt ts j r.CloseSquare
        → Stands ts l (node (bare k.Index) (two_parts a b)) ds gs i (j + 1)
    -- Call = (Member or Call) "(" Elements ")" (13.3.6)
    call : {l : Nonterminal} {a : Rose} {parts : Roses} {ds es gs : Bodies} {i m j : Place}
        → nt.Call ≤ l
        → Stands ts l a ds es i m
        → RoleAt ts m r.Open
        → Elements ts parts es gs (m + 1) j
        → RoleAt ts j r.Close
        → Stands ts nt.Call (node (bare k.Call) (more a parts)) ds gs i (j + 1)
    -- Member = "this" (13.2.1)
    this : {ds : Bodies} {i : Place}
        → RoleAt ts i r.This
        → Stands ts nt.Member (node (bare k.This) none) ds ds i (i + 1)
    -- Member = Name (13.2.2)
    name_of : {n : StrId} {ds : Bodies} {i : Place}
        → RoleAt ts i (r.Name n)
        → Stands ts nt.Member (node (named k.Name n) none) ds ds i (i + 1)
    -- Member = number (13.2.3)
    number : {z : ℤ} {ds : Bodies} {i : Place}
        → RoleAt ts i (r.Number z)
        → Stands ts nt.Member (node (numbered k.Number z) none) ds ds i (i + 1)
    -- Member = text (13.2.3)
    text : {n : StrId} {ds : Bodies} {i : Place}
        → RoleAt ts i (r.Text n)
        → Stands ts nt.Member (node (named k.Text n) none) ds ds i (i + 1)
    -- Member = "true" or "false" or "null" (13.2.3) or "undefined" (19.1.4)
    literal : {x : Fixed} {ds : Bodies} {i : Place}
        → RoleAt ts i (r.Fixed x)
        → Stands ts nt.Member (node (bare (k.Literal x)) none) ds ds i (i + 1)
    -- Member = "[" Elements "]" (13.2.4)
    array : {parts : Roses} {ds es : Bodies} {i j : Place}
        → RoleAt ts i r.OpenSquare
        → Elements ts parts ds es (i + 1) j
        → RoleAt ts j r.CloseSquare
        → Stands ts nt.Member (node (bare k.ArrayLit) parts) ds es i (j + 1)
    -- Member = "{" Properties "}" (13.2.5)
    object : {parts : Roses} {ds es : Bodies} {i j : Place}
        → RoleAt ts i r.OpenBrace
        → Properties ts parts ds es (i + 1) j
        → RoleAt ts j r.CloseBrace
        → Stands ts nt.Member (node (bare k.ObjectLit) parts) ds es i (j + 1)
    -- Member = "function" Name? "(" Params ")" "{" Statement* "}" (15.2)
    function : {maker : Maker} {a : Rose} {ds es : Bodies} {i j : Place}
        → IsFunction maker
        → Made ts maker a ds es i j
        → Stands ts nt.Member a ds es i j
    -- Member = "(" Expr ")" (13.2.9)
    group : {a : Rose} {ds es : Bodies} {i j : Place}
        → RoleAt ts i r.Open
        → Stands ts nt.Expr a ds es (i + 1) j
        → RoleAt ts j r.Close
        → Stands ts nt.Member (node (bare k.Group) (one_part a)) ds es i (j + 1)

  -- one Assign or more, with commas between
  pub data Listed (ts : Tokens) : Roses → Bodies → Bodies → Place → Place → Type 0 where
    -- Assign
    last_of : {a : Rose} {ds es : Bodies} {i j : Place}
        → Stands ts nt.Assign a ds es i j
        → Listed ts (one_part a) ds es i j
    -- Assign "," Listed
    then_of : {a : Rose} {parts : Roses} {ds es gs : Bodies} {i m j : Place}
        → Stands ts nt.Assign a ds es i m
        → RoleAt ts m r.Comma
        → Listed ts parts es gs (m + 1) j
        → Listed ts (more a parts) ds gs i j

  -- arguments or elements, perhaps none; a comma may stand at the end (13.2.4, 13.3.8)
  pub data Elements (ts : Tokens) : Roses → Bodies → Bodies → Place → Place → Type 0 where
    -- nothing
    nothing : {ds : Bodies} {i : Place} → Elements ts none ds ds i i
    -- Listed
    elements : {parts : Roses} {ds es : Bodies} {i j : Place} → Listed ts parts ds es i j → Elements ts parts ds es i j
    -- Listed ","
    elements_comma : {parts : Roses} {ds es : Bodies} {i j : Place}
        → Listed ts parts ds es i j
        → RoleAt ts j r.Comma
        → Elements ts parts ds es i (j + 1)

  -- a key, and its tree where it is an expression in brackets (13.2.5)
  pub data KeyOf (ts : Tokens) : Property → Roses → Bodies → Bodies → Place → Place → Type 0 where
    -- Word (13.2.5, PropertyName)
    key_word : {n : StrId} {ds : Bodies} {i : Place}
        → WordText (token_at ts i) n
        → KeyOf ts (named_property n) none ds ds i (i + 1)
    -- text
    key_text : {n : StrId} {ds : Bodies} {i : Place}
        → TokenAt ts i (t.Text n)
        → KeyOf ts (named_property n) none ds ds i (i + 1)
    -- number
    key_number : {z : ℤ} {ds : Bodies} {i : Place}
        → TokenAt ts i (t.Whole z)
        → KeyOf ts (whole_property z) none ds ds i (i + 1)
    -- "[" Assign "]"
    key_computed : {a : Rose} {ds es : Bodies} {i j : Place}
        → RoleAt ts i r.OpenSquare
        → Stands ts nt.Assign a ds es (i + 1) j
        → RoleAt ts j r.CloseSquare
        → KeyOf ts computed_property (one_part a) ds es i (j + 1)

  -- what stands before the parameters of a function, method, getter or setter
  pub data Before (ts : Tokens) : Maker → Roses → Bodies → Bodies → Place → Place → Type 0 where
    -- "function"
    unnamed : {ds : Bodies} {i : Place} → RoleAt ts i r.Function → Before ts (mk.Function None) none ds ds i (i + 1)
    -- "function" Name
    with_name : {n : StrId} {ds : Bodies} {i : Place}
        → RoleAt ts i r.Function → RoleAt ts (i + 1) (r.Name n)
        → Before ts (mk.Function (Some n)) none ds ds i (i + 1 + 1)
    -- Key
    method : {p : Property} {keys : Roses} {ds es : Bodies} {i j : Place}
        → KeyOf ts p keys ds es i j
        → Before ts (mk.Method p) keys ds es i j
    -- "get" Key
    getter : {p : Property} {keys : Roses} {ds es : Bodies} {i j : Place}
        → GetAt ts i
        → KeyOf ts p keys ds es (i + 1) j
        → Before ts (mk.Getter p) keys ds es i j
    -- "set" Key
    setter : {p : Property} {keys : Roses} {ds es : Bodies} {i j : Place}
        → SetAt ts i
        → KeyOf ts p keys ds es (i + 1) j
        → Before ts (mk.Setter p) keys ds es i j

  -- a function, method, getter or setter
  pub data Made (ts : Tokens) : Maker → Rose → Bodies → Bodies → Place → Place → Type 0 where
    -- Before "(" parameters ")" "{" Statement* "}" (15.2, 15.4)
    made : {maker : Maker} {keys parts body : Roses} {ds es : Bodies} {i m n j : Place}
        → Before ts maker keys ds es i m
        → RoleAt ts m r.Open
        → MakerParams ts maker parts (m + 1) n
        → RoleAt ts n r.Close → RoleAt ts (n + 1) r.OpenBrace
        → Statements ts body (n + 1 + 1) j
        → RoleAt ts j r.CloseBrace
        → Made ts maker (made_node maker keys parts body) ds ((n + 1 + 1) ∷ es) i (j + 1)

  -- a property of an object literal (13.2.5)
  pub data PropertyOf (ts : Tokens) : Rose → Bodies → Bodies → Place → Place → Type 0 where
    -- Key ":" Assign
    valued : {p : Property} {keys : Roses} {a : Rose} {ds es gs : Bodies} {i m j : Place}
        → KeyOf ts p keys ds es i m
        → RoleAt ts m r.Colon
        → Stands ts nt.Assign a es gs (m + 1) j
        → PropertyOf ts (node (value_label p) (join keys (one_part a))) ds gs i j
    -- Name, which is the key and the value
    shorthand : {n : StrId} {ds : Bodies} {i : Place}
        → RoleAt ts i (r.Name n)
        → PropertyOf ts (node (value_label (named_property n)) (more (node (named k.Name n) none) none)) ds ds i (i + 1)
    -- a method, getter or setter (15.4)
    maker_of : {maker : Maker} {a : Rose} {ds es : Bodies} {i j : Place}
        → IsProperty maker
        → Made ts maker a ds es i j
        → PropertyOf ts a ds es i j

  -- one property or more, with commas between
  pub data PropertyList (ts : Tokens) : Roses → Bodies → Bodies → Place → Place → Type 0 where
    -- Property
    last_property : {a : Rose} {ds es : Bodies} {i j : Place}
        → PropertyOf ts a ds es i j
        → PropertyList ts (one_part a) ds es i j
    -- Property "," PropertyList
    then_property : {a : Rose} {parts : Roses} {ds es gs : Bodies} {i m j : Place}
        → PropertyOf ts a ds es i m
        → RoleAt ts m r.Comma
        → PropertyList ts parts es gs (m + 1) j
        → PropertyList ts (more a parts) ds gs i j

  -- the properties of an object literal, perhaps none; a comma may stand at the end (13.2.5)
  pub data Properties (ts : Tokens) : Roses → Bodies → Bodies → Place → Place → Type 0 where
    -- nothing
    no_property : {ds : Bodies} {i : Place} → Properties ts none ds ds i i
    -- PropertyList
    properties : {parts : Roses} {ds es : Bodies} {i j : Place}
        → PropertyList ts parts ds es i j
        → Properties ts parts ds es i j
    -- PropertyList ","
    properties_comma : {parts : Roses} {ds es : Bodies} {i j : Place}
        → PropertyList ts parts ds es i j
        → RoleAt ts j r.Comma
        → Properties ts parts ds es i (j + 1)

  -- one declaration or more, with commas between; true for those of "const" (14.3.1)
  pub data Declarations (ts : Tokens) : Bool → Roses → Place → Place → Type 0 where
    -- Declared
    last_declared : {fixed : Bool} {a : Rose} {i j : Place}
        → Declared ts fixed a i j
        → Declarations ts fixed (one_part a) i j
    -- Declared "," Declarations
    then_declared : {fixed : Bool} {a : Rose} {parts : Roses} {i m j : Place}
        → Declared ts fixed a i m
        → RoleAt ts m r.Comma
        → Declarations ts fixed parts (m + 1) j
        → Declarations ts fixed (more a parts) i j

  -- a name, and its value, which a "const" must have (14.3.1)
  pub data Declared (ts : Tokens) : Bool → Rose → Place → Place → Type 0 where
    -- Name
    declared : {n : StrId} {i : Place}
        → RoleAt ts i (r.Name n)
        → Declared ts false (node (named k.Decl n) none) i (i + 1)
    -- Name "=" Assign
    declared_as : {fixed : Bool} {n : StrId} {a : Rose} {es : Bodies} {i j : Place}
        → RoleAt ts i (r.Name n) → RoleAt ts (i + 1) r.Becomes
        → Stands ts nt.Assign a [] es (i + 1 + 1) j
        → Declared ts fixed (node (named k.Decl n) (one_part a)) i j

  -- the declarations of a "let" (14.3.1)
  pub data Lets (ts : Tokens) : Rose → Place → Place → Type 0 where
    -- "let" Declarations
    lets : {parts : Roses} {i j : Place}
        → WordAt ts i w.Let
        → Declarations ts false parts (i + 1) j
        → Lets ts (node (bare k.Let) parts) i j

  -- a block (14.2)
  pub data BlockOf (ts : Tokens) : Rose → Place → Place → Type 0 where
    -- "{" Statement* "}"
    block : {parts : Roses} {i j : Place}
        → RoleAt ts i r.OpenBrace
        → Statements ts parts (i + 1) j
        → RoleAt ts j r.CloseBrace
        → BlockOf ts (node (bare k.Block) parts) i (j + 1)

  -- an expression or nothing; true where it is there
  pub data Perhaps (ts : Tokens) : Bool → Roses → Place → Place → Type 0 where
    -- nothing
    absent : {i : Place} → Perhaps ts false none i i
    -- Expr
    present : {a : Rose} {es : Bodies} {i j : Place} → Stands ts nt.Expr a [] es i j → Perhaps ts true (one_part a) i j

  -- the first part of the head of a "for"; true where it is there (14.7.4)
  pub data ForFirst (ts : Tokens) : Bool → Roses → Place → Place → Type 0 where
    -- Lets
    first_lets : {a : Rose} {i j : Place} → Lets ts a i j → ForFirst ts true (one_part a) i j
    -- Expr or nothing
    first_expression : {there : Bool} {parts : Roses} {i j : Place}
        → Perhaps ts there parts i j
        → ForFirst ts there parts i j

  -- "catch" with its name and block; whether it is there, and whether it has a name (14.15)
  pub data Caught (ts : Tokens) : Bool → Bool → Roses → Place → Place → Type 0 where
    -- nothing
    no_catch : {i : Place} → Caught ts false false none i i
    -- "catch" Block
    catch_all : {b : Rose} {i j : Place}
        → WordAt ts i w.Catch
        → BlockOf ts b (i + 1) j
        → Caught ts true false (one_part b) i j
    -- "catch" "(" Name ")" Block
    catch_named : {n : StrId} {b : Rose} {i j : Place}
        → WordAt ts i w.Catch → RoleAt ts (i + 1) r.Open → RoleAt ts (i + 1 + 1) (r.Name n)
        → RoleAt ts (i + 1 + 1 + 1) r.Close
        → BlockOf ts b (i + 1 + 1 + 1 + 1) j
        → Caught ts true true (more (param n) (one_part b)) i j

  -- "finally" with its block; true where it is there (14.15)
  pub data Finally (ts : Tokens) : Bool → Roses → Place → Place → Type 0 where
    -- nothing
    no_finally : {i : Place} → Finally ts false none i i
    -- "finally" Block
    finally : {b : Rose} {i j : Place}
        → WordAt ts i w.Finally
        → BlockOf ts b (i + 1) j
        → Finally ts true (one_part b) i j

  -- a statement that may stand below another (14)
  pub data Sub (ts : Tokens) : Rose → Place → Place → Type 0 where
    -- Block (14.2)
    sub_block : {a : Rose} {i j : Place} → BlockOf ts a i j → Sub ts a i j
    -- ";" (14.4)
    empty : {i : Place} → RoleAt ts i r.Semicolon → Sub ts (node (bare k.Empty) none) i (i + 1)
    -- Expr ";", which begins neither with "{" nor with "function" (14.5)
    expression : {a : Rose} {es : Bodies} {i j : Place}
        → NoRoleAt ts i r.OpenBrace
        → NoRoleAt ts i r.Function
        → Stands ts nt.Expr a [] es i j
        → RoleAt ts j r.Semicolon
        → Sub ts (node (bare k.ExprStmt) (one_part a)) i (j + 1)
    -- "if" "(" Expr ")" Sub, with no "else" behind it (14.6)
    if_then : {a b : Rose} {es : Bodies} {i m j : Place}
        → WordAt ts i w.If → RoleAt ts (i + 1) r.Open
        → Stands ts nt.Expr a [] es (i + 1 + 1) m
        → RoleAt ts m r.Close
        → Sub ts b (m + 1) j
        → (WordAt ts j w.Else → ⊥)
        → Sub ts (node (bare k.If) (two_parts a b)) i j
    -- "if" "(" Expr ")" Sub "else" Sub (14.6)
    if_else : {a b c : Rose} {es : Bodies} {i m n j : Place}
        → WordAt ts i w.If → RoleAt ts (i + 1) r.Open
        → Stands ts nt.Expr a [] es (i + 1 + 1) m
        → RoleAt ts m r.Close
        → Sub ts b (m + 1) n
        → WordAt ts n w.Else
        → Sub ts c (n + 1) j
        → Sub ts (node (bare k.If) (three_parts a b c)) i j
    -- "while" "(" Expr ")" Sub (14.7.3)
    while_do : {a b : Rose} {es : Bodies} {i m j : Place}
        → WordAt ts i w.While → RoleAt ts (i + 1) r.Open
        → Stands ts nt.Expr a [] es (i + 1 + 1) m
        → RoleAt ts m r.Close
        → Sub ts b (m + 1) j
        → Sub ts (node (bare k.While) (two_parts a b)) i j
    -- "do" Sub "while" "(" Expr ")" ";" (14.7.2)
    do_while : {a b : Rose} {es : Bodies} {i m j : Place}
        → WordAt ts i w.Do
        → Sub ts b (i + 1) m
        → WordAt ts m w.While → RoleAt ts (m + 1) r.Open
        → Stands ts nt.Expr a [] es (m + 1 + 1) j
        → RoleAt ts j r.Close → RoleAt ts (j + 1) r.Semicolon
        → Sub ts (node (bare k.DoWhile) (two_parts b a)) i (j + 1 + 1)
    -- "for" "(" (Lets or Expr)? ";" Expr? ";" Expr? ")" Sub (14.7.4)
    for_loop : {a b c : Bool} {x y z : Roses} {d : Rose} {i m n o j : Place}
        → WordAt ts i w.For → RoleAt ts (i + 1) r.Open
        → ForFirst ts a x (i + 1 + 1) m
        → RoleAt ts m r.Semicolon
        → Perhaps ts b y (m + 1) n
        → RoleAt ts n r.Semicolon
        → Perhaps ts c z (n + 1) o
        → RoleAt ts o r.Close
        → Sub ts d (o + 1) j
        → Sub ts (node (bare (k.For a b c)) (join x (join y (join z (one_part d))))) i j
    -- "return" ";" (14.10)
    returns : {i : Place}
        → WordAt ts i w.Return → RoleAt ts (i + 1) r.Semicolon
        → Sub ts (node (bare k.Return) none) i (i + 1 + 1)
    -- "return" Expr ";", no line end between (14.10)
    returns_with : {a : Rose} {es : Bodies} {i j : Place}
        → WordAt ts i w.Return → SameLine ts (i + 1)
        → Stands ts nt.Expr a [] es (i + 1) j
        → RoleAt ts j r.Semicolon
        → Sub ts (node (bare k.Return) (one_part a)) i (j + 1)
    -- "throw" Expr ";", no line end between (14.14)
    throw : {a : Rose} {es : Bodies} {i j : Place}
        → WordAt ts i w.Throw → SameLine ts (i + 1)
        → Stands ts nt.Expr a [] es (i + 1) j
        → RoleAt ts j r.Semicolon
        → Sub ts (node (bare k.Throw) (one_part a)) i (j + 1)
    -- "break" ";" (14.9)
    break : {i : Place}
        → WordAt ts i w.Break → RoleAt ts (i + 1) r.Semicolon
        → Sub ts (node (bare k.Break) none) i (i + 1 + 1)
    -- "continue" ";" (14.8)
    continue : {i : Place}
        → WordAt ts i w.Continue → RoleAt ts (i + 1) r.Semicolon
        → Sub ts (node (bare k.Continue) none) i (i + 1 + 1)
    -- "try" Block, a catch or a finally or both (14.15)
    try : {b : Rose} {caught has_name ended : Bool} {x y : Roses} {i m n j : Place}
        → WordAt ts i w.Try
        → BlockOf ts b (i + 1) m
        → Caught ts caught has_name x m n
        → Finally ts ended y n j
        → (caught ≡ false → ended ≡ false → ⊥)
        → Sub ts (node (bare (k.Try caught has_name ended)) (more b (join x y))) i j

  -- a statement or a declaration (14, 16.1)
  pub data Statement (ts : Tokens) : Rose → Place → Place → Type 0 where
    -- Sub
    sub : {a : Rose} {i j : Place} → Sub ts a i j → Statement ts a i j
    -- Lets ";" (14.3.1)
    let_statement : {a : Rose} {i j : Place}
        → Lets ts a i j
        → RoleAt ts j r.Semicolon
        → Statement ts a i (j + 1)
    -- "const" Declarations ";" (14.3.1)
    const : {parts : Roses} {i j : Place}
        → WordAt ts i w.Const
        → Declarations ts true parts (i + 1) j
        → RoleAt ts j r.Semicolon
        → Statement ts (node (bare k.Const) parts) i (j + 1)
    -- "function" Name "(" Params ")" "{" Statement* "}" (15.2)
    declaration : {n : StrId} {parts body : Roses} {i m j : Place}
        → RoleAt ts i r.Function → RoleAt ts (i + 1) (r.Name n) → RoleAt ts (i + 1 + 1) r.Open
        → Params ts parts (i + 1 + 1 + 1) m
        → RoleAt ts m r.Close → RoleAt ts (m + 1) r.OpenBrace
        → Statements ts body (m + 1 + 1) j
        → RoleAt ts j r.CloseBrace
        → Statement ts (node (named (k.FunctionDecl (size parts)) n) (join parts body)) i (j + 1)

  -- statements, perhaps none (14.2, 16.1)
  pub data Statements (ts : Tokens) : Roses → Place → Place → Type 0 where
    -- nothing
    finished : {i : Place} → Statements ts none i i
    -- Statement Statements
    statement : {a : Rose} {parts : Roses} {i m j : Place}
        → Statement ts a i m
        → Statements ts parts m j
        → Statements ts (more a parts) i j
