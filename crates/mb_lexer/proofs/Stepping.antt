-- What a step puts at the end of the tokens.
use Rattle.std.proofs.Common.{◌≡◌, ℕ, List, [], ◌++◌, Result, Ok, Err, refl, sym, ap, subst, ◌∙◌}
use Rattle.std.specs.Prelude.{OnOk}
use Rattle.std.proofs.lemmas.List.{append-nil}
use Rattle.std.proofs.lemmas.Result.{on_ok_weaker}
use Rattle.mb_token.specs.declared.token.Spanned.{Spanned}
use Rattle.mb_lexer.specs.declared.fault.LexFault.{LexFault}
use Rattle.mb_lexer.specs.declared.state.Move.{Move}
use Rattle.mb_lexer.specs.declared.state.Move.TheVariants.{Goes, Adds, Splits, Ends, Fails}
use Rattle.mb_lexer.specs.Reading.{Lexeme, Kind}
use Rattle.mb_lexer.specs.machine.Machine.{Machine, ended, moved, begun_after, step, step_by, move_of, begun}
use Rattle.mb_lexer.specs.machine.Outcomes.{Gains, given}
use Rattle.mb_lexer.proofs.Seen.{gains_more}
use Rattle.mb_lexer.proofs.Fit.{begun_quiet}

given_after : (m : Machine) (c : ℕ) (r : Result (List Lexeme) Kind) → (begun_after m c r).tokens ≡ given r
given_after m c (Ok ts) = refl
given_after m c (Err kind) = refl

by_move : (m : Machine) (c : ℕ) (mv : Move) → (mv ≡ Ends → ⊥) → (step_by m c mv).tokens ≡ (moved m c mv).tokens
by_move m c (Goes s) n = refl
by_move m c (Adds s code) n = refl
by_move m c (Splits first) n = refl
by_move m c Ends n = absurd (n refl)
by_move m c Fails n = refl

pub step_gains_ends : {A : Type 0} (r : Result A LexFault) (a b : List (List ℕ)) (x y z : List Spanned) (m n : Machine) (c : ℕ) (change : Move) → move_of m.state c ≡ Ends → change ≡ begun c
    → Gains a x b y (given (ended m.state m)) → OnOk r (Gains b y b z (moved n c change).tokens) → OnOk r (Gains a x b z (step m c).tokens)
step_gains_ends r a b x y z m n c change e f g o =
    let t : (step m c).tokens ≡ given (ended m.state m) = ap (λ mv. (step_by m c mv).tokens) e ∙ given_after m c (ended m.state m) in
    let u : (moved n c change).tokens ≡ [] = ap (λ mv. (moved n c mv).tokens) f ∙ begun_quiet n c in
    on_ok_weaker r (λ h. subst (λ ts. Gains a x b z ts) (ap (λ us. given (ended m.state m) ++ us) u ∙ append-nil (given (ended m.state m)) ∙ sym t) (gains_more a b b x y z (given (ended m.state m)) (moved n c change).tokens g h)) o

pub step_gains : {A : Type 0} (r : Result A LexFault) (a : List (List ℕ)) (x z : List Spanned) (m : Machine) (c : ℕ) (mv : Move) → move_of m.state c ≡ mv → (mv ≡ Ends → ⊥)
    → OnOk r (Gains a x a z (moved m c mv).tokens) → OnOk r (Gains a x a z (step m c).tokens)
step_gains r a x z m c mv e n o = on_ok_weaker r (λ h. subst (λ ts. Gains a x a z ts) (sym (ap (λ v. (step_by m c v).tokens) e ∙ by_move m c mv n)) h) o
