-- Lists on the stack of operands, where they close.
use Rattle.std.proofs.Common.{◌≡◌, ℕ, ◌+◌, Bool, true, List, ◌∷◌, refl, sym, ap, subst, arith}
use Rattle.mb_base.specs.declared.value.StrId.{StrId}
use Rattle.mb_token.specs.declared.token.Spanned.{Spanned}
use Rattle.mb_tree.specs.Roses.{Rose, Roses, none, more, size}
use Rattle.mb_tree.specs.machine.Operands.{pushed}
use Rattle.mb_grammar.specs.declared.role.Role.TheVariants as r
use Rattle.mb_grammar.specs.Tokens.{RoleAt}
use Rattle.mb_grammar.specs.Labels.{param}
use Rattle.mb_grammar.specs.Parts.{Names, last_name, name_and, Params, no_params, params, params_comma}
use Rattle.mb_grammar.specs.Grammar.{Declarations, then_declared, BlockOf, Caught, no_catch, catch_all, catch_named, Statements, statement}
use Rattle.mb_parse_stmt.specs.declared.terminal.Terminal.{Terminal}
use Rattle.mb_parse_stmt.specs.declared.terminal.Terminal.TheVariants as p
use Rattle.mb_parse_stmt.specs.declared.machine.Stop.{Stop}
use Rattle.mb_parse_stmt.specs.declared.machine.Stop.TheVariants as st
use Rattle.mb_parse_stmt.specs.machine.Terminals.{terminal_at}
use Rattle.mb_parse_stmt.specs.machine.Machine.{one, is_close, stops_of}
use Rattle.mb_parse_stmt.specs.machine.Covers.{Counted, no_statement, one_more, Commas, no_comma, comma_more, NameCommas, no_name, name_more, CatchHead, nameless, head_named, IsStop}
use Rattle.mb_parse_stmt.proofs.Tokens.{means}

-- lists on the stack of operands

pub record Listing (ts : List Spanned) (n : ℕ) (rs : List Rose) (acc : Roses) (rs' : List Rose) (i j : ℕ) : Type 0 where
  pub parts : Roses
  pub listed : Statements ts parts i j
  pub stack : pushed acc rs' ≡ pushed parts rs
  pub count : size parts ≡ n + size acc

pub close_counted : {ts : List Spanned} {n : ℕ} {rs rs' : List Rose} {i k : ℕ} → Counted ts n rs rs' i k → (acc : Roses) (j : ℕ) → Statements ts acc k j → Listing ts n rs acc rs' i j
close_counted no_statement acc j d = record { parts = acc; listed = d; stack = refl; count = omega arith }
close_counted (one_more {a = a} c d m) acc j q =
    let l = close_counted c (more a acc) j (statement d q) in
    record { parts = l.parts; listed = l.listed; stack = l.stack; count = omega (arith, l.count, m) }

pub record Declaring (ts : List Spanned) (fixed : Bool) (n : ℕ) (rs : List Rose) (acc : Roses) (rs' : List Rose) (i j : ℕ) : Type 0 where
  pub parts : Roses
  pub listed : Declarations ts fixed parts i j
  pub stack : pushed acc rs' ≡ pushed parts rs
  pub count : size parts ≡ n + size acc

pub close_commas : {ts : List Spanned} {fixed : Bool} {n : ℕ} {rs rs' : List Rose} {i k : ℕ} → Commas ts fixed n rs rs' i k → (acc : Roses) (j : ℕ) → Declarations ts fixed acc k j → Declaring ts fixed n rs acc rs' i j
close_commas no_comma acc j d = record { parts = acc; listed = d; stack = refl; count = omega arith }
close_commas {ts = ts} {fixed = fixed} (comma_more {a = a} c d e m k) acc j q =
    let l = close_commas c (more a acc) j (then_declared d e (subst (λ x. Declarations ts fixed acc x j) k q)) in
    record { parts = l.parts; listed = l.listed; stack = l.stack; count = omega (arith, l.count, m) }

pub record Naming (ts : List Spanned) (n : ℕ) (rs : List Rose) (acc : Roses) (rs' : List Rose) (i j : ℕ) : Type 0 where
  pub parts : Roses
  pub listed : Names ts parts i j
  pub stack : pushed acc rs' ≡ pushed parts rs
  pub count : size parts ≡ n + size acc

pub close_names : {ts : List Spanned} {n : ℕ} {rs rs' : List Rose} {i k : ℕ} → NameCommas ts n rs rs' i k → (acc : Roses) (j : ℕ) → Names ts acc k j → Naming ts n rs acc rs' i j
close_names no_name acc j d = record { parts = acc; listed = d; stack = refl; count = omega arith }
close_names {ts = ts} (name_more {x = x} c d e m k) acc j q =
    let l = close_names c (more (param x) acc) j (name_and d e (subst (λ z. Names ts acc z j) k q)) in
    record { parts = l.parts; listed = l.listed; stack = l.stack; count = omega (arith, l.count, m) }

pub record EndedNames (ts : List Spanned) (n : ℕ) (rs rs' : List Rose) (i j : ℕ) : Type 0 where
  pub parts : Roses
  pub listed : Params ts parts i j
  pub stack : rs' ≡ pushed parts rs
  pub count : n ≡ size parts

pub end_names : {ts : List Spanned} {n : ℕ} {rs rs' : List Rose} {i k : ℕ} → NameCommas ts n rs rs' i k → EndedNames ts n rs rs' i k
end_names no_name = record { parts = none; listed = no_params; stack = refl; count = refl }
end_names {ts = ts} {i = i} (name_more {x = x} {j = j} c d e m q) =
    let l = close_names c (more (param x) none) (j + 1) (last_name d) in
    record { parts = l.parts; listed = subst (λ z. Params ts l.parts i z) (sym q) (params_comma l.listed e); stack = l.stack; count = omega (arith, l.count, m) }

pub names_params : {ts : List Spanned} {n : ℕ} {rs rs' : List Rose} {i k : ℕ} {x : StrId} → NameCommas ts n rs rs' i k → RoleAt ts k (r.Name x) → EndedNames ts (n + 1) rs (param x ∷ rs') i (k + 1)
names_params {k = k} {x = x} c d =
    let l = close_names c (more (param x) none) (k + 1) (last_name d) in
    record { parts = l.parts; listed = params l.listed; stack = l.stack; count = omega (arith, l.count) }

pub record CaughtOf (ts : List Spanned) (has : Bool) (b d : Rose) (rs rs' : List Rose) (m j : ℕ) : Type 0 where
  pub x : Roses
  pub caught : Caught ts true has x m j
  pub stack : d ∷ rs' ≡ pushed x (b ∷ rs)
  pub count : size x ≡ 1 + one has

pub caught_of : {ts : List Spanned} {has : Bool} {b d : Rose} {rs qs rs' : List Rose} {m k j : ℕ} → CatchHead ts has qs rs' m k → qs ≡ b ∷ rs → BlockOf ts d k j → CaughtOf ts has b d rs rs' m j
caught_of {d = d} (nameless e) q bl = record { x = more d none; caught = catch_all e bl; stack = ap (λ y. d ∷ y) q; count = refl }
caught_of {d = d} (head_named {x = x} e o n u) q bl = record { x = more (param x) (more d none); caught = catch_named e o n u bl; stack = ap (λ y. d ∷ param x ∷ y) q; count = refl }

pub caught_size : {ts : List Spanned} {caught has : Bool} {x : Roses} {m n : ℕ} → Caught ts caught has x m n → size x ≡ one caught + one has
caught_size no_catch = refl
caught_size (catch_all e d) = refl
caught_size (catch_named e o n u d) = refl

-- ends

pub is_close_at : (x : Terminal) → is_close x ≡ true → x ≡ p.CloseBrace
is_close_at p.CloseBrace e = refl
is_close_at _ e = cc

pub stops_at : (stop : Stop) (ts : List Spanned) (i : ℕ) (x : Terminal) → terminal_at ts i ≡ x → stops_of stop x ≡ true → IsStop stop ts i
stops_at st.End ts i p.End e q = e
stops_at st.End ts i _ e q = cc
stops_at st.Brace ts i p.CloseBrace e q = means ts i p.CloseBrace e
stops_at st.Brace ts i _ e q = cc
