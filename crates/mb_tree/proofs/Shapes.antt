-- A form tells the kind of its node and all its children.
use Rattle.std.proofs.Common.{◌≡◌, ℕ, Bool, true, false, List, [], ◌∷◌, ◌++◌, length, take, drop, Option, Some, None, refl, sym, ap, ◌∙◌}
use Rattle.std.specs.Prelude.{nat_le, if◌then◌else◌, option_to_list}
use Rattle.std.specs.Option.{option_map}
use Rattle.std.proofs.lemmas.List.{take-append-drop, length-take-le}
use Rattle.std.proofs.lemmas.Bool.{leb-true}
use Rattle.mb_base.specs.declared.value.NodeId.{NodeId}
use Rattle.mb_base.specs.declared.value.StrId.{StrId}
use Rattle.mb_tree.specs.declared.kind.Kind.{Kind}
use Rattle.mb_tree.specs.declared.kind.Kind.TheVariants as k
use Rattle.mb_tree.specs.declared.kind.PropKey.{PropKey}
use Rattle.mb_tree.specs.declared.kind.PropKey.TheVariants as pk
use Rattle.mb_tree.specs.Roses.{Label}
use Rattle.mb_tree.specs.Form.{PropName, Written, Whole, Computed, FunctionParts, Form, DeclForm, FunctionDeclForm, MemberForm, MethodForm, GetterForm, SetterForm, ValueForm, leaf_of, named_leaf, one_of, two_of, at_most_one_of, first_and_rest, function_parts, key_and_rest, if_form, cond_form, for_form, try_form, decl_form, member_form, function_decl_form, value_form, method_form, property_form, operand_form, expression_form, statement_form, form_by, key_kind, kind_of, key_parts, parts_of}

-- each form that this is has the kind and the parts
abbrev pub IsOf : Kind → List NodeId → Option Form → Type 0
IsOf kind parts o = (f : Form) → o ≡ Some f → (kind_of f ≡ kind) × (parts_of f ≡ parts)

is_some_of : (kind : Kind) (parts : List NodeId) (g : Form) → kind_of g ≡ kind → parts_of g ≡ parts → IsOf kind parts (Some g)
is_some_of kind parts g a b f e =
    let q : g ≡ f = cc in
    (ap kind_of (sym q) ∙ a, ap parts_of (sym q) ∙ b)

is_none : (kind : Kind) (parts : List NodeId) → IsOf kind parts None
is_none kind parts f e = absurd (let z : ⊥ = cc in z)

is_mapped : {A : Type 0} (g : A → Form) (kind : Kind) (parts : List NodeId) (o : Option A) → ((a : A) → o ≡ Some a → (kind_of (g a) ≡ kind) × (parts_of (g a) ≡ parts)) → IsOf kind parts (option_map g o)
is_mapped g kind parts None h = is_none kind parts
is_mapped g kind parts (Some a) h = is_some_of kind parts (g a) (h a refl).0 (h a refl).1

is_leaf : (kind : Kind) (parts : List NodeId) (g : Form) → kind_of g ≡ kind → parts_of g ≡ [] → IsOf kind parts (leaf_of parts g)
is_leaf kind [] g a b = is_some_of kind [] g a b
is_leaf kind (x ∷ xs) g a b = is_none kind (x ∷ xs)

is_named_leaf : (kind : Kind) (g : StrId → Form) (o : Option StrId) (parts : List NodeId) → ((n : StrId) → kind_of (g n) ≡ kind) → ((n : StrId) → parts_of (g n) ≡ []) → IsOf kind parts (named_leaf g o parts)
is_named_leaf kind g None parts a b = is_none kind parts
is_named_leaf kind g (Some n) parts a b = is_leaf kind parts (g n) (a n) (b n)

-- which parts they are

one_is : (parts : List NodeId) (a : NodeId) → one_of parts ≡ Some a → a ∷ [] ≡ parts
one_is [] a e = absurd (let z : ⊥ = cc in z)
one_is (b ∷ []) a e = let q : b ≡ a = cc in ap (λ x. x ∷ []) (sym q)
one_is (b ∷ c ∷ cs) a e = absurd (let z : ⊥ = cc in z)

two_is : (parts : List NodeId) (p : NodeId × NodeId) → two_of parts ≡ Some p → p.0 ∷ p.1 ∷ [] ≡ parts
two_is [] p e = absurd (let z : ⊥ = cc in z)
two_is (b ∷ []) p e = absurd (let z : ⊥ = cc in z)
two_is (b ∷ c ∷ []) p e = let q : (b, c) ≡ p = cc in ap (λ (x : NodeId × NodeId). x.0 ∷ x.1 ∷ []) (sym q)
two_is (b ∷ c ∷ d ∷ ds) p e = absurd (let z : ⊥ = cc in z)

at_most_is : (parts : List NodeId) (o : Option NodeId) → at_most_one_of parts ≡ Some o → option_to_list o ≡ parts
at_most_is [] o e = let q : None ≡ o = cc in ap option_to_list (sym q)
at_most_is (b ∷ []) o e = let q : Some b ≡ o = cc in ap option_to_list (sym q)
at_most_is (b ∷ c ∷ cs) o e = absurd (let z : ⊥ = cc in z)

first_is : (parts : List NodeId) (p : NodeId × List NodeId) → first_and_rest parts ≡ Some p → p.0 ∷ p.1 ≡ parts
first_is [] p e = absurd (let z : ⊥ = cc in z)
first_is (b ∷ rest) p e = let q : (b, rest) ≡ p = cc in ap (λ (x : NodeId × List NodeId). x.0 ∷ x.1) (sym q)

function_is : (n : ℕ) (parts : List NodeId) (p : FunctionParts) → function_parts n parts ≡ Some p → (length p.params ≡ n) × (p.params ++ p.body ≡ parts)
function_is n parts p e = by (nat_le n (length parts)) refl e
  where
    by : (b : Bool) → nat_le n (length parts) ≡ b → (if b then Some (record { params = take n parts; body = drop n parts }) else None) ≡ Some p → (length p.params ≡ n) × (p.params ++ p.body ≡ parts)
    by true t q =
        let r : record { params = take n parts; body = drop n parts } ≡ p = cc in
        (ap (λ (x : FunctionParts). length x.params) (sym r) ∙ length-take-le n parts (leb-true n (length parts) t), ap (λ (x : FunctionParts). x.params ++ x.body) (sym r) ∙ take-append-drop n parts)
    by false t q = absurd (let z : ⊥ = cc in z)

-- forms with parts that may be left out

is_decl : (name : Option StrId) (parts : List NodeId) (o : Option (Option NodeId)) → ((v : Option NodeId) → o ≡ Some v → option_to_list v ≡ parts) → IsOf k.Decl parts (decl_form name o)
is_decl None parts o h = is_none k.Decl parts
is_decl (Some n) parts None h = is_none k.Decl parts
is_decl (Some n) parts (Some v) h = is_some_of k.Decl parts (DeclForm n v) refl (h v refl)

is_member : (name : Option StrId) (parts : List NodeId) (o : Option NodeId) → ((a : NodeId) → o ≡ Some a → a ∷ [] ≡ parts) → IsOf k.Member parts (member_form name o)
is_member None parts o h = is_none k.Member parts
is_member (Some n) parts None h = is_none k.Member parts
is_member (Some n) parts (Some a) h = is_some_of k.Member parts (MemberForm a n) refl (h a refl)

is_function_decl : (n : ℕ) (name : Option StrId) (parts : List NodeId) (o : Option FunctionParts) → ((p : FunctionParts) → o ≡ Some p → (length p.params ≡ n) × (p.params ++ p.body ≡ parts)) → IsOf (k.FunctionDecl n) parts (function_decl_form name o)
is_function_decl n None parts o h = is_none (k.FunctionDecl n) parts
is_function_decl n (Some name) parts None h = is_none (k.FunctionDecl n) parts
is_function_decl n (Some name) parts (Some p) h = is_some_of (k.FunctionDecl n) parts (FunctionDeclForm name p) (ap k.FunctionDecl (h p refl).0) (h p refl).1

is_if : (parts : List NodeId) → IsOf k.If parts (if_form parts)
is_if (a ∷ b ∷ []) = is_some_of _ _ _ refl refl
is_if (a ∷ b ∷ c ∷ []) = is_some_of _ _ _ refl refl
is_if [] = is_none _ _
is_if (a ∷ []) = is_none _ _
is_if (a ∷ b ∷ c ∷ d ∷ ds) = is_none _ _

is_cond : (parts : List NodeId) → IsOf k.Cond parts (cond_form parts)
is_cond (a ∷ b ∷ c ∷ []) = is_some_of _ _ _ refl refl
is_cond [] = is_none _ _
is_cond (a ∷ []) = is_none _ _
is_cond (a ∷ b ∷ []) = is_none _ _
is_cond (a ∷ b ∷ c ∷ d ∷ ds) = is_none _ _

is_for : (x y z : Bool) (parts : List NodeId) → IsOf (k.For x y z) parts (for_form x y z parts)
is_for false false false [] = is_none _ _
is_for false false false (a ∷ []) = is_some_of _ _ _ refl refl
is_for false false false (a ∷ b ∷ es) = is_none _ _
is_for false false true [] = is_none _ _
is_for false false true (a ∷ []) = is_none _ _
is_for false false true (a ∷ b ∷ []) = is_some_of _ _ _ refl refl
is_for false false true (a ∷ b ∷ c ∷ es) = is_none _ _
is_for false true false [] = is_none _ _
is_for false true false (a ∷ []) = is_none _ _
is_for false true false (a ∷ b ∷ []) = is_some_of _ _ _ refl refl
is_for false true false (a ∷ b ∷ c ∷ es) = is_none _ _
is_for false true true [] = is_none _ _
is_for false true true (a ∷ []) = is_none _ _
is_for false true true (a ∷ b ∷ []) = is_none _ _
is_for false true true (a ∷ b ∷ c ∷ []) = is_some_of _ _ _ refl refl
is_for false true true (a ∷ b ∷ c ∷ d ∷ es) = is_none _ _
is_for true false false [] = is_none _ _
is_for true false false (a ∷ []) = is_none _ _
is_for true false false (a ∷ b ∷ []) = is_some_of _ _ _ refl refl
is_for true false false (a ∷ b ∷ c ∷ es) = is_none _ _
is_for true false true [] = is_none _ _
is_for true false true (a ∷ []) = is_none _ _
is_for true false true (a ∷ b ∷ []) = is_none _ _
is_for true false true (a ∷ b ∷ c ∷ []) = is_some_of _ _ _ refl refl
is_for true false true (a ∷ b ∷ c ∷ d ∷ es) = is_none _ _
is_for true true false [] = is_none _ _
is_for true true false (a ∷ []) = is_none _ _
is_for true true false (a ∷ b ∷ []) = is_none _ _
is_for true true false (a ∷ b ∷ c ∷ []) = is_some_of _ _ _ refl refl
is_for true true false (a ∷ b ∷ c ∷ d ∷ es) = is_none _ _
is_for true true true [] = is_none _ _
is_for true true true (a ∷ []) = is_none _ _
is_for true true true (a ∷ b ∷ []) = is_none _ _
is_for true true true (a ∷ b ∷ c ∷ []) = is_none _ _
is_for true true true (a ∷ b ∷ c ∷ d ∷ []) = is_some_of _ _ _ refl refl
is_for true true true (a ∷ b ∷ c ∷ d ∷ e ∷ es) = is_none _ _

is_try : (x y z : Bool) (parts : List NodeId) → IsOf (k.Try x y z) parts (try_form x y z parts)
is_try false false false parts = is_none _ _
is_try false false true [] = is_none _ _
is_try false false true (a ∷ []) = is_none _ _
is_try false false true (a ∷ b ∷ []) = is_some_of _ _ _ refl refl
is_try false false true (a ∷ b ∷ c ∷ es) = is_none _ _
is_try false true false parts = is_none _ _
is_try false true true parts = is_none _ _
is_try true false false [] = is_none _ _
is_try true false false (a ∷ []) = is_none _ _
is_try true false false (a ∷ b ∷ []) = is_some_of _ _ _ refl refl
is_try true false false (a ∷ b ∷ c ∷ es) = is_none _ _
is_try true false true [] = is_none _ _
is_try true false true (a ∷ []) = is_none _ _
is_try true false true (a ∷ b ∷ []) = is_none _ _
is_try true false true (a ∷ b ∷ c ∷ []) = is_some_of _ _ _ refl refl
is_try true false true (a ∷ b ∷ c ∷ d ∷ es) = is_none _ _
is_try true true false [] = is_none _ _
is_try true true false (a ∷ []) = is_none _ _
is_try true true false (a ∷ b ∷ []) = is_none _ _
is_try true true false (a ∷ b ∷ c ∷ []) = is_some_of _ _ _ refl refl
is_try true true false (a ∷ b ∷ c ∷ d ∷ es) = is_none _ _
is_try true true true [] = is_none _ _
is_try true true true (a ∷ []) = is_none _ _
is_try true true true (a ∷ b ∷ []) = is_none _ _
is_try true true true (a ∷ b ∷ c ∷ []) = is_none _ _
is_try true true true (a ∷ b ∷ c ∷ d ∷ []) = is_some_of _ _ _ refl refl
is_try true true true (a ∷ b ∷ c ∷ d ∷ e ∷ es) = is_none _ _

-- properties

is_value_with : (key : PropName) (rest : List NodeId) → IsOf (k.Value (key_kind key)) (key_parts key ++ rest) (value_form (Some (key, rest)))
is_value_with key rest = is_mapped (ValueForm key) _ _ (one_of rest) (λ a e. (refl, ap (λ x. key_parts key ++ x) (one_is rest a e)))

is_value : (key : PropKey) (label : Label) (parts : List NodeId) → IsOf (k.Value key) parts (value_form (key_and_rest key label parts))
is_value pk.Named label parts = by label.name
  where
    by : (o : Option StrId) → IsOf (k.Value pk.Named) parts (value_form (option_map (λ name. (Written name, parts)) o))
    by None = is_none _ _
    by (Some n) = is_value_with (Written n) parts
is_value pk.Whole label parts = is_value_with (Whole label.whole) parts
is_value pk.Computed label [] = is_none _ _
is_value pk.Computed label (a ∷ rest) = is_value_with (Computed a) rest

module _ (kind : Kind) (n : ℕ) (form : PropName → FunctionParts → Form) where
  is_method_with : (key : PropName) (rest : List NodeId) → ((p : FunctionParts) → length p.params ≡ n → kind_of (form key p) ≡ kind) → ((p : FunctionParts) → parts_of (form key p) ≡ key_parts key ++ p.params ++ p.body) → IsOf kind (key_parts key ++ rest) (method_form n form (Some (key, rest)))
  is_method_with key rest h q = is_mapped (form key) _ _ (function_parts n rest) (λ p e. (h p (function_is n rest p e).0, q p ∙ joined key p rest (function_is n rest p e).1))
    where
      joined : (key : PropName) (p : FunctionParts) (rest : List NodeId) → p.params ++ p.body ≡ rest → key_parts key ++ p.params ++ p.body ≡ key_parts key ++ rest
      joined (Written x) p rest e = e
      joined (Whole x) p rest e = e
      joined (Computed x) p rest e = ap (λ y. x ∷ y) e

  is_method : (label : Label) (parts : List NodeId) (key : PropKey) → ((name : PropName) (p : FunctionParts) → length p.params ≡ n → key_kind name ≡ key → kind_of (form name p) ≡ kind) → ((name : PropName) (p : FunctionParts) → parts_of (form name p) ≡ key_parts name ++ p.params ++ p.body) → IsOf kind parts (method_form n form (key_and_rest key label parts))
  is_method label parts pk.Named h q = by label.name
    where
      by : (o : Option StrId) → IsOf kind parts (method_form n form (option_map (λ name. (Written name, parts)) o))
      by None = is_none _ _
      by (Some x) = is_method_with (Written x) parts (λ p e. h (Written x) p e refl) (q (Written x))
  is_method label parts pk.Whole h q = is_method_with (Whole label.whole) parts (λ p e. h (Whole label.whole) p e refl) (q (Whole label.whole))
  is_method label [] pk.Computed h q = is_none _ _
  is_method label (a ∷ rest) pk.Computed h q = is_method_with (Computed a) rest (λ p e. h (Computed a) p e refl) (q (Computed a))

property_is : (kind : Kind) (label : Label) (parts : List NodeId) → IsOf kind parts (property_form kind label parts)
property_is (k.Value x) label parts = is_value x label parts
property_is (k.Method x y) label parts = is_method (k.Method x y) y MethodForm label parts x (λ key p e f. ap (λ n. k.Method (key_kind key) n) e ∙ ap (λ q. k.Method q y) f) (λ key p. refl)
property_is (k.Getter x) label parts = is_method (k.Getter x) 0 GetterForm label parts x (λ key p e f. ap k.Getter f) (λ key p. refl)
property_is (k.Setter x) label parts = is_method (k.Setter x) 1 SetterForm label parts x (λ key p e f. ap k.Setter f) (λ key p. refl)
property_is kind label parts = is_none kind parts

operand_is : (kind : Kind) (label : Label) (parts : List NodeId) → IsOf kind parts (operand_form kind label parts)
operand_is k.New label parts = is_mapped _ _ parts (first_and_rest parts) (λ p e. (refl, first_is parts p e))
operand_is k.Member label parts = is_member label.name parts (one_of parts) (one_is parts)
operand_is k.Index label parts = is_mapped _ _ parts (two_of parts) (λ p e. (refl, two_is parts p e))
operand_is k.Call label parts = is_mapped _ _ parts (first_and_rest parts) (λ p e. (refl, first_is parts p e))
operand_is k.This label parts = is_leaf _ parts _ refl refl
operand_is k.Name label parts = is_named_leaf _ _ label.name parts (λ n. refl) (λ n. refl)
operand_is k.Number label parts = is_leaf _ parts _ refl refl
operand_is k.Text label parts = is_named_leaf _ _ label.name parts (λ n. refl) (λ n. refl)
operand_is (k.Literal x) label parts = is_leaf _ parts _ refl refl
operand_is k.ArrayLit label parts = is_some_of _ _ _ refl refl
operand_is k.ObjectLit label parts = is_some_of _ _ _ refl refl
operand_is (k.Function x) label parts = is_mapped _ _ parts (function_parts x parts) (λ p e. (ap k.Function (function_is x parts p e).0, (function_is x parts p e).1))
operand_is k.Group label parts = is_mapped _ _ parts (one_of parts) (λ a e. (refl, one_is parts a e))
operand_is kind label parts = property_is kind label parts

expression_is : (kind : Kind) (label : Label) (parts : List NodeId) → IsOf kind parts (expression_form kind label parts)
expression_is k.Seq label parts = is_some_of _ _ _ refl refl
expression_is k.Assign label parts = is_mapped _ _ parts (two_of parts) (λ p e. (refl, two_is parts p e))
expression_is (k.Compound x) label parts = is_mapped _ _ parts (two_of parts) (λ p e. (refl, two_is parts p e))
expression_is (k.Arrow x y) label parts = is_mapped _ _ parts (function_parts x parts) (λ p e. (ap (λ n. k.Arrow n y) (function_is x parts p e).0, (function_is x parts p e).1))
expression_is k.Cond label parts = is_cond parts
expression_is k.Or label parts = is_mapped _ _ parts (two_of parts) (λ p e. (refl, two_is parts p e))
expression_is k.And label parts = is_mapped _ _ parts (two_of parts) (λ p e. (refl, two_is parts p e))
expression_is (k.Binary x) label parts = is_mapped _ _ parts (two_of parts) (λ p e. (refl, two_is parts p e))
expression_is (k.Unary x) label parts = is_mapped _ _ parts (one_of parts) (λ a e. (refl, one_is parts a e))
expression_is (k.Update x y) label parts = is_mapped _ _ parts (one_of parts) (λ a e. (refl, one_is parts a e))
expression_is kind label parts = operand_is kind label parts

statement_is : (kind : Kind) (label : Label) (parts : List NodeId) → IsOf kind parts (statement_form kind label parts)
statement_is k.Decl label parts = is_decl label.name parts (at_most_one_of parts) (at_most_is parts)
statement_is (k.FunctionDecl x) label parts = is_function_decl x label.name parts (function_parts x parts) (function_is x parts)
statement_is k.ExprStmt label parts = is_mapped _ _ parts (one_of parts) (λ a e. (refl, one_is parts a e))
statement_is k.While label parts = is_mapped _ _ parts (two_of parts) (λ p e. (refl, two_is parts p e))
statement_is k.DoWhile label parts = is_mapped _ _ parts (two_of parts) (λ p e. (refl, two_is parts p e))
statement_is k.Return label parts = is_mapped _ _ parts (at_most_one_of parts) (λ o e. (refl, at_most_is parts o e))
statement_is k.Throw label parts = is_mapped _ _ parts (one_of parts) (λ a e. (refl, one_is parts a e))
statement_is k.Param label parts = is_named_leaf _ _ label.name parts (λ n. refl) (λ n. refl)
statement_is kind label parts = expression_is kind label parts

pub form_is : (kind : Kind) (label : Label) (parts : List NodeId) → IsOf kind parts (form_by kind label parts)
form_is k.Script label parts = is_some_of _ _ _ refl refl
form_is k.Let label parts = is_some_of _ _ _ refl refl
form_is k.Const label parts = is_some_of _ _ _ refl refl
form_is k.Block label parts = is_some_of _ _ _ refl refl
form_is k.Empty label parts = is_leaf _ parts _ refl refl
form_is k.Break label parts = is_leaf _ parts _ refl refl
form_is k.Continue label parts = is_leaf _ parts _ refl refl
form_is k.If label parts = is_if parts
form_is (k.For x y z) label parts = is_for x y z parts
form_is (k.Try x y z) label parts = is_try x y z parts
form_is kind label parts = statement_is kind label parts
