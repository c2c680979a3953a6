-- Tokens that stand one after the other from a place on, and what they are to the grammar.
use Rattle.std.proofs.Common.{◌≡◌, ℕ, ◌+◌, List, [], ◌∷◌, suc, length, Some, slice_get, refl, sym, ap, subst, ◌∙◌, arith}
use Rattle.std.specs.Prelude.{false}
use Rattle.mb_base.specs.declared.value.StrId.{StrId}
use Rattle.mb_token.specs.declared.token.Token.TheVariants as t
use Rattle.mb_token.specs.declared.token.Spanned.{Spanned}
use Rattle.mb_token.specs.declared.word.Word.{Word}
use Rattle.mb_token.specs.declared.word.Soft.TheVariants.{Get}
use Rattle.mb_tree.specs.Roses.{Rose}
use Rattle.mb_grammar.specs.declared.role.Role.{Role}
use Rattle.mb_grammar.specs.Tokens.{role_of, token_of, line_of, token_at, RoleAt, NoRoleAt, SameLine, WordAt}
use Rattle.mb_grammar.specs.Grammar.{Stands, lift}
use Rattle.mb_grammar.specs.Parts.{WordText, name, GetAt}

pub data Run (ts : List Spanned) : ℕ → List Spanned → Type 0 where
  over : {i : ℕ} → i ≡ length ts → Run ts i []
  then : {i : ℕ} {a : Spanned} {rest : List Spanned} → slice_get ts i ≡ Some a → Run ts (i + 1) rest → Run ts i (a ∷ rest)

pub ends_at : {ts : List Spanned} {i : ℕ} → Run ts i [] → i ≡ length ts
ends_at (over e) = e

pub here : {ts : List Spanned} {i : ℕ} {a : Spanned} {rest : List Spanned} → Run ts i (a ∷ rest) → slice_get ts i ≡ Some a
here (then e r) = e

pub later : {ts : List Spanned} {i : ℕ} {a : Spanned} {rest : List Spanned} → Run ts i (a ∷ rest) → Run ts (i + 1) rest
later (then e r) = r

run_later : (x : Spanned) (ts : List Spanned) (i : ℕ) (rest : List Spanned) → Run ts i rest → Run (x ∷ ts) (suc i) rest
run_later x ts i [] (over e) = over (ap suc e)
run_later x ts i (a ∷ rest) (then e r) = then e (let next : suc (i + 1) ≡ suc i + 1 = omega arith in subst (λ n. Run (x ∷ ts) n rest) next (run_later x ts (i + 1) rest r))

pub from_start : (ts : List Spanned) → Run ts 0 ts
from_start [] = over refl
from_start (x ∷ ts) = then refl (run_later x ts 0 ts (from_start ts))

pub role : {ts : List Spanned} {i : ℕ} {a : Spanned} {rest : List Spanned} → Run ts i (a ∷ rest) → RoleAt ts i (role_of (Some a.token))
role h = record { is = ap (λ o. role_of (token_of o)) (here h) }

pub text_here : {ts : List Spanned} {i : ℕ} {a : Spanned} {rest : List Spanned} (n : StrId) → Run ts i (a ∷ rest) → a.token ≡ t.Name n → WordText (token_at ts i) n
text_here n h e = subst (λ o. WordText o n) (sym (ap token_of (here h) ∙ ap Some e)) name

pub word_here : {ts : List Spanned} {i : ℕ} {a : Spanned} {rest : List Spanned} (w : Word) (n : StrId) → Run ts i (a ∷ rest) → a.token ≡ t.Reserved w n → WordAt ts i w
word_here w n h e = record { text = n; is = ap token_of (here h) ∙ ap Some e }

pub get_here : {ts : List Spanned} {i : ℕ} {a : Spanned} {rest : List Spanned} (n : StrId) → Run ts i (a ∷ rest) → a.token ≡ t.Soft Get n → GetAt ts i
get_here n h e = record { text = n; is = ap token_of (here h) ∙ ap Some e }

pub same_line : {ts : List Spanned} {i : ℕ} {a : Spanned} {rest : List Spanned} → Run ts i (a ∷ rest) → a.after_line ≡ false → SameLine ts i
same_line h e = record { is = ap line_of (here h) ∙ e }

pub no_role : {ts : List Spanned} {i : ℕ} {a : Spanned} {rest : List Spanned} (wanted : Role) → Run ts i (a ∷ rest) → (role_of (Some a.token) ≡ wanted → ⊥) → NoRoleAt ts i wanted
no_role wanted h differs = record { differs = λ e. differs (sym (role h).is ∙ e) }

pub down_to_assign : {ts : List Spanned} {a : Rose} {ds es : List ℕ} {i j : ℕ} → Stands ts 15 a ds es i j → Stands ts 3 a ds es i j
down_to_assign s =
    lift (omega arith) (lift (omega arith) (lift (omega arith) (lift (omega arith) (lift (omega arith) (lift (omega arith)
    (lift (omega arith) (lift (omega arith) (lift (omega arith) (lift (omega arith) (lift (omega arith) (lift (omega arith) s)))))))))))

pub down_from_assign : {ts : List Spanned} {a : Rose} {ds es : List ℕ} {i j : ℕ} → Stands ts 3 a ds es i j → Stands ts 1 a ds es i j
down_from_assign s = lift (omega arith) (lift (omega arith) s)
