-- Which frames are left once others were taken, and what they read of an answer.
use Rattle.std.proofs.Common.{List, refl, sym, true, true≢false, ℕ, ◌≡◌}
use Rattle.mb_eval_expr.specs.machine.Resuming.{is_assigning, is_literal, takes_value}
use Rattle.mb_frames.specs.Rest.Expressions.{expr_rest}
use Rattle.mb_frames.specs.declared.expressions.ExprFrame.{ExprFrame}
use Rattle.mb_frames.specs.declared.expressions.ExprFrame.TheVariants as e
use Rattle.mb_model.specs.Task.{Answer, Value as ValueAnswer}
use Rattle.mb_model.specs.Writing.{value_in}
use Rattle.mb_world.specs.Form.{Form}
use Rattle.mb_world.specs.Image.{Names}

pub takes-is : (y : ExprFrame) → ((g : _) → y ≡ e.Put g → ⊥) → (y ≡ e.Deleted → ⊥) → (y ≡ e.Has → ⊥) → takes_value y
    ≡ true
takes-is (e.Put g) h i j = absurd (h g refl)
takes-is e.Deleted h i j = absurd (i refl)
takes-is e.Has h i j = absurd (j refl)
takes-is _ h i j = refl

-- such a frame reads the value alone
pub rest-value : (n : Names) (fs : List Form) (s : ℕ) (y : ExprFrame) (a : Answer) → takes_value y ≡ true
    → expr_rest n fs s y a ≡ expr_rest n fs s y (ValueAnswer (value_in a))
rest-value n fs s (e.Put g) a h = absurd (true≢false (sym h))
rest-value n fs s e.Deleted a h = absurd (true≢false (sym h))
rest-value n fs s e.Has a h = absurd (true≢false (sym h))
rest-value n fs s _ a h = refl

pub assigning-is : (y : ExprFrame) → takes_value y ≡ true → (y ≡ e.Got → ⊥) → ((a b c : _) → y ≡ e.MemberBase a b c → ⊥)
    → ((a b c : _) → y ≡ e.IndexBase a b c → ⊥) → ((a b c : _) → y ≡ e.IndexKey a b c → ⊥)
    → ((a b : _) → y ≡ e.Or a b → ⊥)
    → ((a b : _) → y ≡ e.And a b → ⊥) → ((a b c : _) → y ≡ e.Cond a b c → ⊥) → ((a b c : _) → y ≡ e.Seq a b c → ⊥)
    → (y ≡ e.Not → ⊥) → (y ≡ e.Negate → ⊥) → (y ≡ e.Typeof → ⊥) → ((a b c : _) → y ≡ e.Left a b c → ⊥)
    → ((a b : _) → y ≡ e.Right a b → ⊥) → ((a : _) → y ≡ e.InstancePrototype a → ⊥) → ((a : _) → y ≡ e.Chain a → ⊥)
    → is_assigning y ≡ true
assigning-is (e.Put g) t h1 h2 h3 h4 h5 h6 h7 h8 h9 h10 h11 h12 h13 h14 h15 = absurd (true≢false (sym t))
assigning-is e.Deleted t h1 h2 h3 h4 h5 h6 h7 h8 h9 h10 h11 h12 h13 h14 h15 = absurd (true≢false (sym t))
assigning-is e.Has t h1 h2 h3 h4 h5 h6 h7 h8 h9 h10 h11 h12 h13 h14 h15 = absurd (true≢false (sym t))
assigning-is e.Got t h1 h2 h3 h4 h5 h6 h7 h8 h9 h10 h11 h12 h13 h14 h15 = absurd (h1 refl)
assigning-is (e.MemberBase a b c) t h1 h2 h3 h4 h5 h6 h7 h8 h9 h10 h11 h12 h13 h14 h15 = absurd (h2 a b c refl)
assigning-is (e.IndexBase a b c) t h1 h2 h3 h4 h5 h6 h7 h8 h9 h10 h11 h12 h13 h14 h15 = absurd (h3 a b c refl)
assigning-is (e.IndexKey a b c) t h1 h2 h3 h4 h5 h6 h7 h8 h9 h10 h11 h12 h13 h14 h15 = absurd (h4 a b c refl)
assigning-is (e.Or a b) t h1 h2 h3 h4 h5 h6 h7 h8 h9 h10 h11 h12 h13 h14 h15 = absurd (h5 a b refl)
assigning-is (e.And a b) t h1 h2 h3 h4 h5 h6 h7 h8 h9 h10 h11 h12 h13 h14 h15 = absurd (h6 a b refl)
assigning-is (e.Cond a b c) t h1 h2 h3 h4 h5 h6 h7 h8 h9 h10 h11 h12 h13 h14 h15 = absurd (h7 a b c refl)
assigning-is (e.Seq a b c) t h1 h2 h3 h4 h5 h6 h7 h8 h9 h10 h11 h12 h13 h14 h15 = absurd (h8 a b c refl)
assigning-is e.Not t h1 h2 h3 h4 h5 h6 h7 h8 h9 h10 h11 h12 h13 h14 h15 = absurd (h9 refl)
assigning-is e.Negate t h1 h2 h3 h4 h5 h6 h7 h8 h9 h10 h11 h12 h13 h14 h15 = absurd (h10 refl)
assigning-is e.Typeof t h1 h2 h3 h4 h5 h6 h7 h8 h9 h10 h11 h12 h13 h14 h15 = absurd (h11 refl)
assigning-is (e.Left a b c) t h1 h2 h3 h4 h5 h6 h7 h8 h9 h10 h11 h12 h13 h14 h15 = absurd (h12 a b c refl)
assigning-is (e.Right a b) t h1 h2 h3 h4 h5 h6 h7 h8 h9 h10 h11 h12 h13 h14 h15 = absurd (h13 a b refl)
assigning-is (e.InstancePrototype a) t h1 h2 h3 h4 h5 h6 h7 h8 h9 h10 h11 h12 h13 h14 h15 = absurd (h14 a refl)
assigning-is (e.Chain a) t h1 h2 h3 h4 h5 h6 h7 h8 h9 h10 h11 h12 h13 h14 h15 = absurd (h15 a refl)
assigning-is _ t h1 h2 h3 h4 h5 h6 h7 h8 h9 h10 h11 h12 h13 h14 h15 = refl

pub literal-is : (y : ExprFrame) → is_assigning y ≡ true → ((a b : _) → y ≡ e.AssignValue a b → ⊥)
    → ((a b c d : _) → y ≡ e.CompoundOld a b c d → ⊥) → ((a b c d : _) → y ≡ e.CompoundValue a b c d → ⊥)
    → ((a b c d : _) → y ≡ e.UpdateOld a b c d → ⊥) → ((a b c : _) → y ≡ e.Callee a b c → ⊥)
    → ((a b c d f : _) → y ≡ e.Argument a b c d f → ⊥) → ((a b : _) → y ≡ e.Constructor a b → ⊥)
    → ((a b c d : _) → y ≡ e.NewArgument a b c d → ⊥) → is_literal y ≡ true
literal-is (e.AssignValue a b) t h1 h2 h3 h4 h5 h6 h7 h8 = absurd (h1 a b refl)
literal-is (e.CompoundOld a b c d) t h1 h2 h3 h4 h5 h6 h7 h8 = absurd (h2 a b c d refl)
literal-is (e.CompoundValue a b c d) t h1 h2 h3 h4 h5 h6 h7 h8 = absurd (h3 a b c d refl)
literal-is (e.UpdateOld a b c d) t h1 h2 h3 h4 h5 h6 h7 h8 = absurd (h4 a b c d refl)
literal-is (e.Callee a b c) t h1 h2 h3 h4 h5 h6 h7 h8 = absurd (h5 a b c refl)
literal-is (e.Argument a b c d f) t h1 h2 h3 h4 h5 h6 h7 h8 = absurd (h6 a b c d f refl)
literal-is (e.Constructor a b) t h1 h2 h3 h4 h5 h6 h7 h8 = absurd (h7 a b refl)
literal-is (e.NewArgument a b c d) t h1 h2 h3 h4 h5 h6 h7 h8 = absurd (h8 a b c d refl)
literal-is _ t h1 h2 h3 h4 h5 h6 h7 h8 = t

pub no-literal : (y : ExprFrame) → is_literal y ≡ true → ((a b c d : _) → y ≡ e.Element a b c d → ⊥)
    → ((a b c d f : _) → y ≡ e.PropKey a b c d f → ⊥) → ((a b c d f : _) → y ≡ e.PropValue a b c d f → ⊥) → ⊥
no-literal (e.Element a b c d) t h i j = h a b c d refl
no-literal (e.PropKey a b c d f) t h i j = i a b c d f refl
no-literal (e.PropValue a b c d f) t h i j = j a b c d f refl
no-literal _ t h i j = true≢false (sym t)
