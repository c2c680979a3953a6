-- Two scripts on one graph have one story, and end one way.
use Rattle.std.proofs.Common.{List, None, Option, Some, [], ap, ap₂, arith, inl, inr, refl, sym, ℕ, ◌∙◌, ◌∷◌, ◌≡◌}
use Rattle.mb_cli.proofs.OneAnswer.{never_both, one_fault}
use Rattle.mb_cli.proofs.Programs.{one_held, program_passes}
use Rattle.mb_cli.specs.Sharing.{HasStory, letters_of}
use Rattle.mb_cli.specs.Sides.{left_side, right_side}
use Rattle.mb_cli.specs.Tasks.{EndsShared, EndsStory, IsEnd, IsFaulty, IsTooLong, IsWithin, PassesCheck}
use Rattle.mb_cli.specs.declared.status.ScriptKind.{ScriptKind}
use Rattle.mb_cli.specs.declared.status.Status.{Status}
use Rattle.mb_cli.specs.declared.status.Status.TheVariants.{BadScript, Done, Spent, TooLong, Uncaught}
use Rattle.mb_cli.specs.declared.status.Which.TheVariants.{Script}
use Rattle.mb_model.specs.Story as story
use Rattle.mb_model.specs.Story.{Stage, Story}
use Rattle.mb_world.specs.Graph.{Program}

abbrev pub story_of : List ℕ → ℕ → Program → Program → Stage
story_of word n p q = Story (p ∷ q ∷ []) [] (letters_of word) n

pub one_story : (left right : Option (List ℕ)) (word : List ℕ) (n : ℕ) (s t : Stage) → HasStory left right word n s
    → HasStory left right word n t → s ≡ t
one_story left right word n s t a b =
    a.is ∙ ap₂ (story_of word n) (one_held left a.lefts b.lefts a.left_has b.left_has)
    (one_held right a.rights b.rights a.right_has b.right_has) ∙ sym b.is

-- ---- one script

passes_within : (held : Option (List ℕ)) → PassesCheck held → IsWithin held
passes_within None p = absurd p
passes_within (Some bytes) p = p.0

faulty_within : (held : Option (List ℕ)) (k : ScriptKind) → IsFaulty held k → IsWithin held
faulty_within None k p = absurd p
faulty_within (Some bytes) k p = p.0

within_not_long : (held : Option (List ℕ)) → IsWithin held → IsTooLong held → ⊥
within_not_long None p q = absurd p
within_not_long (Some bytes) p q = omega (arith, p, q)

passes_not_faulty : (held : Option (List ℕ)) (k : ScriptKind) → PassesCheck held → IsFaulty held k → ⊥
passes_not_faulty None k p q = absurd p
passes_not_faulty (Some bytes) k p q = never_both bytes k p.1 q.1

one_kind : (held : Option (List ℕ)) (j k : ScriptKind) → IsFaulty held j → IsFaulty held k → j ≡ k
one_kind None j k p q = absurd p
one_kind (Some bytes) j k p q = one_fault bytes j k p.1 q.1

-- ---- the status of an ending

abbrev pub status_by : story.Ending → Status
status_by story.Done = Done
status_by story.WithThrow = Uncaught
status_by story.OutOfFuel = Spent

pub is_end_by : (e : story.Ending) → IsEnd (status_by e)
is_end_by story.Done = tt
is_end_by story.WithThrow = tt
is_end_by story.OutOfFuel = tt

module _ (left right : Option (List ℕ)) (word : List ℕ) (n : ℕ) where
  pub ends_by : (e : story.Ending) → EndsStory left right word n e → EndsShared left right word n (status_by e)
  ends_by story.Done p = p
  ends_by story.WithThrow p = p
  ends_by story.OutOfFuel p = p

  one_ending : (e f : story.Ending) → EndsStory left right word n e → EndsStory left right word n f → e ≡ f
  one_ending e f (s, a, p) (t, b, q) =
      sym p ∙ ap (λ (x : Stage). x.ending) (one_story left right word n s t a b) ∙ q

  left_passes : (e : story.Ending) → EndsStory left right word n e → PassesCheck left
  left_passes e (s, a, p) = program_passes left a.lefts a.left_has

  right_passes : (e : story.Ending) → EndsStory left right word n e → PassesCheck right
  right_passes e (s, a, p) = program_passes right a.rights a.right_has

  -- the ways in which two scripts may end
  data Way (s : Status) : Type 0 where
    whole : (e : story.Ending) → EndsStory left right word n e → status_by e ≡ s → Way s
    bad_left : (k : ScriptKind) → IsWithin right → IsFaulty left k → BadScript left_side k ≡ s → Way s
    bad_right : (k : ScriptKind) → PassesCheck left → IsFaulty right k → BadScript right_side k ≡ s → Way s
    long_left : IsTooLong left → TooLong (Script left_side) ≡ s → Way s
    long_right : IsWithin left → IsTooLong right → TooLong (Script right_side) ≡ s → Way s

  way : (s : Status) → EndsShared left right word n s → Way s
  way Done p = whole story.Done p refl
  way Uncaught p = whole story.WithThrow p refl
  way Spent p = whole story.OutOfFuel p refl
  way (BadScript side k) (inl (is, within, faulty)) = bad_left k within faulty (ap (λ x. BadScript x k) (sym is))
  way (BadScript side k) (inr (is, passes, faulty)) = bad_right k passes faulty (ap (λ x. BadScript x k) (sym is))
  way (TooLong which) (inl (is, long)) = long_left long (ap TooLong (sym is))
  way (TooLong which) (inr (is, within, long)) = long_right within long (ap TooLong (sym is))
  way s p = absurd p

  one_way : (s t : Status) → Way s → Way t → s ≡ t
  one_way s t (whole e p i) (whole f q j) = sym i ∙ ap status_by (one_ending e f p q) ∙ j
  one_way s t (whole e p i) (bad_left k w f j) = absurd (passes_not_faulty left k (left_passes e p) f)
  one_way s t (whole e p i) (bad_right k w f j) = absurd (passes_not_faulty right k (right_passes e p) f)
  one_way s t (whole e p i) (long_left l j) = absurd (within_not_long left (passes_within left (left_passes e p)) l)
  one_way s t (whole e p i) (long_right w l j) =
      absurd (within_not_long right (passes_within right (right_passes e p)) l)
  one_way s t (bad_left k w f i) (whole e p j) = absurd (passes_not_faulty left k (left_passes e p) f)
  one_way s t (bad_left k w f i) (bad_left m x g j) = sym i ∙ ap (BadScript left_side) (one_kind left k m f g) ∙ j
  one_way s t (bad_left k w f i) (bad_right m x g j) = absurd (passes_not_faulty left k x f)
  one_way s t (bad_left k w f i) (long_left l j) = absurd (within_not_long left (faulty_within left k f) l)
  one_way s t (bad_left k w f i) (long_right x l j) = absurd (within_not_long right w l)
  one_way s t (bad_right k w f i) (whole e p j) = absurd (passes_not_faulty right k (right_passes e p) f)
  one_way s t (bad_right k w f i) (bad_left m x g j) = absurd (passes_not_faulty left m w g)
  one_way s t (bad_right k w f i) (bad_right m x g j) = sym i ∙ ap (BadScript right_side) (one_kind right k m f g) ∙ j
  one_way s t (bad_right k w f i) (long_left l j) = absurd (within_not_long left (passes_within left w) l)
  one_way s t (bad_right k w f i) (long_right x l j) = absurd (within_not_long right (faulty_within right k f) l)
  one_way s t (long_left l i) (whole e p j) = absurd (within_not_long left (passes_within left (left_passes e p)) l)
  one_way s t (long_left l i) (bad_left m x g j) = absurd (within_not_long left (faulty_within left m g) l)
  one_way s t (long_left l i) (bad_right m x g j) = absurd (within_not_long left (passes_within left x) l)
  one_way s t (long_left l i) (long_left m j) = sym i ∙ j
  one_way s t (long_left l i) (long_right w m j) = absurd (within_not_long left w l)
  one_way s t (long_right w l i) (whole e p j) =
      absurd (within_not_long right (passes_within right (right_passes e p)) l)
  one_way s t (long_right w l i) (bad_left m x g j) = absurd (within_not_long right x l)
  one_way s t (long_right w l i) (bad_right m x g j) = absurd (within_not_long right (faulty_within right m g) l)
  one_way s t (long_right w l i) (long_left m j) = absurd (within_not_long left w m)
  one_way s t (long_right w l i) (long_right x m j) = sym i ∙ j

  pub shared_once : (s t : Status) → EndsShared left right word n s → EndsShared left right word n t → s ≡ t
  shared_once s t p q = one_way s t (way s p) (way t q)
