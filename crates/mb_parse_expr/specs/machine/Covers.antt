-- What a parser has read so far.
use Rattle.std.specs.Prelude.{◌≡◌, ℕ, ◌+◌, ◌≤◌, Bool, List, [], ◌∷◌, Option, Some, None}
use Rattle.mb_base.specs.declared.value.StrId.{StrId}
use Rattle.mb_token.specs.declared.token.Spanned.{Spanned}
use Rattle.mb_token.specs.declared.word.Soft.TheVariants.{Get, Set}
use Rattle.mb_tree.specs.declared.kind.Kind.TheVariants as kd
use Rattle.mb_tree.specs.declared.kind.Sign.{Sign}
use Rattle.mb_tree.specs.declared.kind.Sign.TheVariants as s
use Rattle.mb_tree.specs.Roses.{Rose, Roses, node, none, named, size}
use Rattle.mb_tree.specs.machine.Operands.{pushed}
use Rattle.mb_grammar.specs.declared.role.Role.TheVariants as r
use Rattle.mb_parse_expr.specs.declared.role.Follow.TheVariants as fo
use Rattle.mb_grammar.specs.declared.level.Level.{Level}
use Rattle.mb_grammar.specs.declared.function.Property.{Property}
use Rattle.mb_grammar.specs.declared.function.Maker.{Maker}
use Rattle.mb_grammar.specs.declared.function.Maker.TheVariants as mk
use Rattle.mb_parse_expr.specs.declared.machine.Frame.{Frame}
use Rattle.mb_parse_expr.specs.declared.machine.Frame.TheVariants as f
use Rattle.mb_parse_expr.specs.declared.machine.Mode.TheVariants as mo
use Rattle.mb_parse_expr.specs.machine.Machine.{follow_of, State, Going, Waits, Ends, Fails, Stuck}
use Rattle.mb_grammar.specs.Tokens.{role_at, RoleAt, NoRoleAt, SameLine}
use Rattle.mb_grammar.specs.Nonterminals as nt
use Rattle.mb_grammar.specs.Nonterminals.{level_of}
use Rattle.mb_grammar.specs.Script.{IsEnd, least_of}
use Rattle.mb_grammar.specs.Labels.{named_property, param}
use Rattle.mb_grammar.specs.Parts.{GetAt, SetAt, Head, MakerParams}
use Rattle.mb_grammar.specs.Grammar.{Stands, KeyOf, Before, PropertyOf, Statements}

abbrev pub IsListing : Maker → Type 0
IsListing (mk.Getter p) = ⊥
IsListing (mk.Setter p) = ⊥
IsListing _ = Unit {0}

abbrev pub IsNaming : Maker → Type 0
IsNaming (mk.Getter p) = ⊥
IsNaming _ = Unit {0}

-- n elements, each with a comma behind it
pub data Commas (ts : List Spanned) : ℕ → List Rose → List Rose → List ℕ → List ℕ → ℕ → ℕ → Type 0 where
  no_comma : {rs : List Rose} {ds : List ℕ} {i : ℕ} → Commas ts 0 rs rs ds ds i i
  comma_more : {n m : ℕ} {a : Rose} {rs rs' : List Rose} {ds es gs : List ℕ} {i j k k' : ℕ} → Commas ts n rs rs' ds es i j → Stands ts nt.Assign a es gs j k → RoleAt ts k r.Comma → m ≡ n + 1 → k' ≡ k + 1 → Commas ts m rs (a ∷ rs') ds gs i k'

-- n properties, each with a comma behind it
pub data PropertyCommas (ts : List Spanned) : ℕ → List Rose → List Rose → List ℕ → List ℕ → ℕ → ℕ → Type 0 where
  no_property_yet : {rs : List Rose} {ds : List ℕ} {i : ℕ} → PropertyCommas ts 0 rs rs ds ds i i
  property_more : {n m : ℕ} {a : Rose} {rs rs' : List Rose} {ds es gs : List ℕ} {i j k k' : ℕ} → PropertyCommas ts n rs rs' ds es i j → PropertyOf ts a es gs j k → RoleAt ts k r.Comma → m ≡ n + 1 → k' ≡ k + 1 → PropertyCommas ts m rs (a ∷ rs') ds gs i k'

-- n parameters, each with a comma behind it
pub data NameCommas (ts : List Spanned) (maker : Maker) : ℕ → List Rose → List Rose → ℕ → ℕ → Type 0 where
  no_name : {rs : List Rose} {i : ℕ} → NameCommas ts maker 0 rs rs i i
  name_more : {n m : ℕ} {x : StrId} {rs rs' : List Rose} {i j k : ℕ} → IsListing maker → NameCommas ts maker n rs rs' i j → RoleAt ts j (r.Name x) → RoleAt ts (j + 1) r.Comma → m ≡ n + 1 → k ≡ j + 1 + 1 → NameCommas ts maker m rs (param x ∷ rs') i k

-- what stands before the opening parenthesis; nothing does before an arrow function's
pub data Opening (ts : List Spanned) : Maker → Roses → List ℕ → List ℕ → ℕ → ℕ → Type 0 where
  opening : {maker : Maker} {keys : Roses} {ds es : List ℕ} {i j : ℕ} → Before ts maker keys ds es i j → Opening ts maker keys ds es i j
  arrow_opening : {ds : List ℕ} {i : ℕ} → Opening ts mk.Arrow none ds ds i i

module _ (ts : List Spanned) (level : Level) (start : ℕ) where
  mutual
    -- the frames and operands cover the tokens from start up to this place, where an operand is wanted
    pub data Spine : List Frame → List Rose → List ℕ → ℕ → Type 0 where
      bottom : Spine (f.Start level ∷ []) [] [] start
      in_infix : {sign : Sign} {a : Rose} {fs : List Frame} {rs : List Rose} {ds es : List ℕ} {i j k : ℕ} → Spine fs rs ds i → Stands ts (level_of sign) a ds es i j → RoleAt ts j (r.Infix sign) → k ≡ j + 1 → Spine (f.Infix sign ∷ fs) (a ∷ rs) es k
      in_or : {a : Rose} {fs : List Frame} {rs : List Rose} {ds es : List ℕ} {i j k : ℕ} → Spine fs rs ds i → Stands ts nt.And a ds es i j → RoleAt ts j r.Or → k ≡ j + 1 → Spine (f.Or ∷ fs) (a ∷ rs) es k
      in_and : {a : Rose} {fs : List Frame} {rs : List Rose} {ds es : List ℕ} {i j k : ℕ} → Spine fs rs ds i → Stands ts nt.Equal a ds es i j → RoleAt ts j r.And → k ≡ j + 1 → Spine (f.And ∷ fs) (a ∷ rs) es k
      in_becomes : {a : Rose} {fs : List Frame} {rs : List Rose} {ds es : List ℕ} {i j k : ℕ} → Spine fs rs ds i → Stands ts nt.Left a ds es i j → RoleAt ts j r.Becomes → k ≡ j + 1 → Spine (f.Becomes ∷ fs) (a ∷ rs) es k
      in_compound : {sign : Sign} {a : Rose} {fs : List Frame} {rs : List Rose} {ds es : List ℕ} {i j k : ℕ} → Spine fs rs ds i → Stands ts nt.Left a ds es i j → RoleAt ts j (r.Compound sign) → k ≡ j + 1 → Spine (f.Compound sign ∷ fs) (a ∷ rs) es k
      in_test : {a : Rose} {fs : List Frame} {rs : List Rose} {ds es : List ℕ} {i j k : ℕ} → Spine fs rs ds i → Stands ts nt.Or a ds es i j → RoleAt ts j r.Question → k ≡ j + 1 → Spine (f.Test ∷ fs) (a ∷ rs) es k
      in_choice : {a b : Rose} {fs : List Frame} {rs : List Rose} {ds es gs : List ℕ} {i j m k : ℕ} → Spine fs rs ds i → Stands ts nt.Or a ds es i j → RoleAt ts j r.Question → Stands ts nt.Assign b es gs (j + 1) m → RoleAt ts m r.Colon → k ≡ m + 1 → Spine (f.Choice ∷ fs) (b ∷ a ∷ rs) gs k
      in_unary : {sign : Sign} {fs : List Frame} {rs : List Rose} {ds : List ℕ} {i k : ℕ} → Spine fs rs ds i → RoleAt ts i (r.Prefix sign) → k ≡ i + 1 → Spine (f.Unary sign ∷ fs) rs ds k
      in_negative : {fs : List Frame} {rs : List Rose} {ds : List ℕ} {i k : ℕ} → Spine fs rs ds i → RoleAt ts i (r.Infix s.Minus) → k ≡ i + 1 → Spine (f.Unary s.Minus ∷ fs) rs ds k
      in_before : {plus : Bool} {fs : List Frame} {rs : List Rose} {ds : List ℕ} {i k : ℕ} → Spine fs rs ds i → RoleAt ts i (r.Step plus) → k ≡ i + 1 → Spine (f.Before plus ∷ fs) rs ds k
      in_new : {fs : List Frame} {rs : List Rose} {ds : List ℕ} {i k : ℕ} → Spine fs rs ds i → RoleAt ts i r.New → k ≡ i + 1 → Spine (f.New ∷ fs) rs ds k
      in_group : {fs : List Frame} {rs : List Rose} {ds : List ℕ} {i k : ℕ} → Spine fs rs ds i → RoleAt ts i r.Open → k ≡ i + 1 → Spine (f.Group ∷ fs) rs ds k
      in_index : {l : ℕ} {a : Rose} {fs : List Frame} {rs : List Rose} {ds es : List ℕ} {i j k : ℕ} → Spine fs rs ds i → nt.Call ≤ l → Stands ts l a ds es i j → RoleAt ts j r.OpenSquare → k ≡ j + 1 → Spine (f.Index l ∷ fs) (a ∷ rs) es k
      in_args : {l n : ℕ} {a : Rose} {fs : List Frame} {rs rs' : List Rose} {ds es gs : List ℕ} {i j k : ℕ} → Spine fs rs ds i → nt.Call ≤ l → Stands ts l a ds es i j → RoleAt ts j r.Open → Commas ts n (a ∷ rs) rs' es gs (j + 1) k → Spine (f.Args n ∷ fs) rs' gs k
      in_new_args : {n : ℕ} {a : Rose} {fs : List Frame} {rs rs' : List Rose} {ds es gs : List ℕ} {i j k : ℕ} → Spine fs rs ds i → RoleAt ts i r.New → Stands ts nt.Member a ds es (i + 1) j → RoleAt ts j r.Open → Commas ts n (a ∷ rs) rs' es gs (j + 1) k → Spine (f.NewArgs n ∷ fs) rs' gs k
      in_array : {n : ℕ} {fs : List Frame} {rs rs' : List Rose} {ds es : List ℕ} {i k : ℕ} → Spine fs rs ds i → RoleAt ts i r.OpenSquare → Commas ts n rs rs' ds es (i + 1) k → Spine (f.Array n ∷ fs) rs' es k
      in_seq : {n : ℕ} {fs : List Frame} {rs rs' : List Rose} {ds es : List ℕ} {i k : ℕ} → Spine fs rs ds i → 1 ≤ n → Commas ts n rs rs' ds es i k → Spine (f.Seq n ∷ fs) rs' es k
      in_arrow : {n : ℕ} {parts : Roses} {fs : List Frame} {rs rs' : List Rose} {ds : List ℕ} {i m k : ℕ} → Spine fs rs ds i → Head ts parts i m → RoleAt ts m r.Arrow → SameLine ts m → n ≡ size parts → rs' ≡ pushed parts rs → k ≡ m + 1 → NoRoleAt ts k r.OpenBrace → Spine (f.Made mk.Arrow n ∷ fs) rs' ds k
      in_value : {p : Property} {keys : Roses} {fs : List Frame} {rs rs' : List Rose} {ds es : List ℕ} {i j k : ℕ} → Objects fs rs ds i → KeyOf ts p keys ds es i j → RoleAt ts j r.Colon → rs' ≡ pushed keys rs → k ≡ j + 1 → Spine (f.Value p ∷ fs) rs' es k
      in_computed : {fs : List Frame} {rs : List Rose} {ds : List ℕ} {i k : ℕ} → Objects fs rs ds i → RoleAt ts i r.OpenSquare → k ≡ i + 1 → Spine (f.Computed None ∷ fs) rs ds k
      in_computed_get : {fs : List Frame} {rs : List Rose} {ds : List ℕ} {i j k : ℕ} → Objects fs rs ds i → GetAt ts i → j ≡ i + 1 → RoleAt ts j r.OpenSquare → k ≡ j + 1 → Spine (f.Computed (Some Get) ∷ fs) rs ds k
      in_computed_set : {fs : List Frame} {rs : List Rose} {ds : List ℕ} {i j k : ℕ} → Objects fs rs ds i → SetAt ts i → j ≡ i + 1 → RoleAt ts j r.OpenSquare → k ≡ j + 1 → Spine (f.Computed (Some Set) ∷ fs) rs ds k

    -- the same, where a property is wanted
    pub data Objects : List Frame → List Rose → List ℕ → ℕ → Type 0 where
      in_object : {n : ℕ} {fs : List Frame} {rs rs' : List Rose} {ds es : List ℕ} {i k : ℕ} → Spine fs rs ds i → RoleAt ts i r.OpenBrace → PropertyCommas ts n rs rs' ds es (i + 1) k → Objects (f.Object n ∷ fs) rs' es k

  -- where what has parameters begins
  pub data Under : Maker → List Frame → List Rose → List ℕ → ℕ → Type 0 where
    under_arrow : {fs : List Frame} {rs : List Rose} {ds : List ℕ} {i : ℕ} → Spine fs rs ds i → Under mk.Arrow fs rs ds i
    under_function : {name : Option StrId} {fs : List Frame} {rs : List Rose} {ds : List ℕ} {i : ℕ} → Spine fs rs ds i → Under (mk.Function name) fs rs ds i
    under_method : {p : Property} {fs : List Frame} {rs : List Rose} {ds : List ℕ} {i : ℕ} → Objects fs rs ds i → Under (mk.Method p) fs rs ds i
    under_getter : {p : Property} {fs : List Frame} {rs : List Rose} {ds : List ℕ} {i : ℕ} → Objects fs rs ds i → Under (mk.Getter p) fs rs ds i
    under_setter : {p : Property} {fs : List Frame} {rs : List Rose} {ds : List ℕ} {i : ℕ} → Objects fs rs ds i → Under (mk.Setter p) fs rs ds i

  pub data Titled : List Frame → List Rose → List ℕ → ℕ → Type 0 where
    title_read : {fs : List Frame} {rs : List Rose} {ds : List ℕ} {i k : ℕ} → Spine fs rs ds i → RoleAt ts i r.Function → k ≡ i + 1 → Titled (f.Header (mk.Function None) ∷ fs) rs ds k

  pub data Headed : List Frame → List Rose → List ℕ → ℕ → Type 0 where
    headed : {maker : Maker} {keys : Roses} {fs : List Frame} {rs rs' : List Rose} {ds es : List ℕ} {i k : ℕ} → Under maker fs rs ds i → Before ts maker keys ds es i k → rs' ≡ pushed keys rs → Headed (f.Header maker ∷ fs) rs' es k

  -- n parameters and commas
  pub data InParams : List Frame → List Rose → List ℕ → ℕ → Type 0 where
    in_params : {maker : Maker} {n : ℕ} {keys : Roses} {fs : List Frame} {rs rs' : List Rose} {ds es : List ℕ} {i m k : ℕ} → Under maker fs rs ds i → Opening ts maker keys ds es i m → RoleAt ts m r.Open → NameCommas ts maker n (pushed keys rs) rs' (m + 1) k → InParams (f.Params maker n ∷ fs) rs' es k

  -- and one more parameter
  pub data InComma : List Frame → List Rose → List ℕ → ℕ → Type 0 where
    in_comma : {maker : Maker} {n : ℕ} {x : StrId} {keys : Roses} {fs : List Frame} {rs rs' : List Rose} {ds es : List ℕ} {i m j k : ℕ} → Under maker fs rs ds i → Opening ts maker keys ds es i m → RoleAt ts m r.Open → NameCommas ts maker n (pushed keys rs) rs' (m + 1) j → IsNaming maker → RoleAt ts j (r.Name x) → k ≡ j + 1 → InComma (f.Params maker n ∷ fs) (param x ∷ rs') es k

  pub data InHead : List Frame → List Rose → List ℕ → ℕ → Type 0 where
    in_head : {n : ℕ} {parts : Roses} {fs : List Frame} {rs rs' : List Rose} {ds : List ℕ} {i k : ℕ} → Spine fs rs ds i → Head ts parts i k → n ≡ size parts → rs' ≡ pushed parts rs → InHead (f.Head n ∷ fs) rs' ds k

  -- an arrow function's body begins
  pub data Arrowed : List Frame → List Rose → List ℕ → ℕ → Type 0 where
    arrowed : {n : ℕ} {parts : Roses} {fs : List Frame} {rs rs' : List Rose} {ds : List ℕ} {i m k : ℕ} → Spine fs rs ds i → Head ts parts i m → RoleAt ts m r.Arrow → SameLine ts m → n ≡ size parts → rs' ≡ pushed parts rs → k ≡ m + 1 → Arrowed (f.Made mk.Arrow n ∷ fs) rs' ds k

  -- a body in braces begins
  pub data Ready : List Frame → List Rose → List ℕ → ℕ → Type 0 where
    ready_arrow : {fs : List Frame} {rs : List Rose} {ds : List ℕ} {i : ℕ} → Arrowed fs rs ds i → Ready fs rs ds i
    ready_made : {maker : Maker} {n : ℕ} {keys parts : Roses} {fs : List Frame} {rs rs' : List Rose} {ds es : List ℕ} {i m j k : ℕ} → Under maker fs rs ds i → Before ts maker keys ds es i m → RoleAt ts m r.Open → MakerParams ts maker parts (m + 1) j → RoleAt ts j r.Close → n ≡ size parts → rs' ≡ pushed parts (pushed keys rs) → k ≡ j + 1 → Ready (f.Made maker n ∷ fs) rs' es k

  -- and its brace
  pub data Braced : List Frame → List Rose → List ℕ → ℕ → Type 0 where
    braced : {fs : List Frame} {rs : List Rose} {ds es : List ℕ} {i k : ℕ} → Ready fs rs ds i → RoleAt ts i r.OpenBrace → k ≡ i + 1 → es ≡ k ∷ ds → Braced fs rs es k

  -- and its statements
  pub data Blocked : List Frame → List Rose → List ℕ → ℕ → ℕ → Type 0 where
    blocked : {count : ℕ} {body : Roses} {fs : List Frame} {rs rs' : List Rose} {ds : List ℕ} {i j k : ℕ} → Braced fs rs ds i → Statements ts body i j → RoleAt ts j r.CloseBrace → k ≡ j + 1 → rs' ≡ pushed body rs → count ≡ size body → Blocked fs rs' ds count k

  -- an operand and a dot
  pub data Dotted : List Frame → List Rose → List ℕ → ℕ → ℕ → Type 0 where
    dotted : {l : ℕ} {fs : List Frame} {a : Rose} {rs : List Rose} {ds es : List ℕ} {i m k : ℕ} → Spine fs rs ds i → nt.Call ≤ l → Stands ts l a ds es i m → RoleAt ts m r.Dot → k ≡ m + 1 → Dotted fs (a ∷ rs) es l k

  pub data Accessing : List Frame → List Rose → List ℕ → ℕ → Type 0 where
    getting : {fs : List Frame} {rs : List Rose} {ds : List ℕ} {i k : ℕ} → Objects fs rs ds i → GetAt ts i → k ≡ i + 1 → Accessing (f.Accessor Get ∷ fs) rs ds k
    setting : {fs : List Frame} {rs : List Rose} {ds : List ℕ} {i k : ℕ} → Objects fs rs ds i → SetAt ts i → k ≡ i + 1 → Accessing (f.Accessor Set ∷ fs) rs ds k

  pub data KeyRead : List Frame → List Rose → List ℕ → ℕ → Type 0 where
    key_read : {p : Property} {keys : Roses} {fs : List Frame} {rs rs' : List Rose} {ds es : List ℕ} {i k : ℕ} → Objects fs rs ds i → KeyOf ts p keys ds es i k → rs' ≡ pushed keys rs → KeyRead (f.Key p ∷ fs) rs' es k

  pub data ItemRead : List Frame → List Rose → List ℕ → ℕ → Type 0 where
    item_read : {a : Rose} {fs : List Frame} {rs : List Rose} {ds es : List ℕ} {i k : ℕ} → Objects fs rs ds i → PropertyOf ts a ds es i k → ItemRead fs (a ∷ rs) es k

  -- an operand of this level, or a name that is a property and its value
  pub data Behind : List Frame → List Rose → List ℕ → ℕ → ℕ → Type 0 where
    behind_operand : {l : ℕ} {fs : List Frame} {a : Rose} {rs : List Rose} {ds es : List ℕ} {i k : ℕ} → Spine fs rs ds i → Stands ts l a ds es i k → Behind fs (a ∷ rs) es l k
    behind_short : {l : ℕ} {n : StrId} {fs : List Frame} {rs : List Rose} {ds : List ℕ} {i k : ℕ} → Objects fs rs ds i → RoleAt ts i (r.Name n) → follow_of (role_at ts k) ≡ fo.Ends → l ≡ nt.Member → k ≡ i + 1 → Behind (f.Value (named_property n) ∷ fs) (node (named kd.Name n) none ∷ rs) ds l k

abbrev pub Good : List Spanned → Level → ℕ → State → Type 0
Good ts level start (Going fs rs ds mo.Operand at) = Spine ts level start fs rs ds at
Good ts level start (Going fs rs ds mo.Body at) = Arrowed ts level start fs rs ds at
Good ts level start (Going fs rs ds (mo.After l) at) = Behind ts level start fs rs ds l at
Good ts level start (Going fs rs ds (mo.Block count) at) = Blocked ts level start fs rs ds count at
Good ts level start (Going fs rs ds (mo.Word l) at) = Dotted ts level start fs rs ds l at
Good ts level start (Going fs rs ds mo.Title at) = Titled ts level start fs rs ds at
Good ts level start (Going fs rs ds mo.Open at) = Headed ts level start fs rs ds at
Good ts level start (Going fs rs ds mo.Param at) = InParams ts level start fs rs ds at
Good ts level start (Going fs rs ds mo.Comma at) = InComma ts level start fs rs ds at
Good ts level start (Going fs rs ds mo.Arrow at) = InHead ts level start fs rs ds at
Good ts level start (Going fs rs ds mo.Brace at) = Ready ts level start fs rs ds at
Good ts level start (Going fs rs ds mo.Property at) = Objects ts level start fs rs ds at
Good ts level start (Going fs rs ds mo.Key at) = Accessing ts level start fs rs ds at
Good ts level start (Going fs rs ds mo.Keyed at) = KeyRead ts level start fs rs ds at
Good ts level start (Going fs rs ds mo.Item at) = ItemRead ts level start fs rs ds at
Good ts level start (Waits fs rs ds at) = Braced ts level start fs rs ds at
Good ts level start (Ends rs ds at) = (a : Rose) × (rs ≡ a ∷ []) × Stands ts (least_of level) a [] ds start at × IsEnd level (role_at ts at)
Good ts level start Fails = Unit {0}
Good ts level start Stuck = ⊥
