use Rattle.std.proofs.Common.{◌≡◌, ℕ, List, [], ◌∷◌, Bool, true, false, ◌&&◌, refl, if◌then◌else◌}
use Rattle.mb_desc.specs.declared.descriptor.Desc.{Desc}
use Rattle.mb_desc.specs.Descriptors.{is_data_descriptor, is_accessor_descriptor, IsOfOneKind, no_fields}
use Rattle.mb_world.specs.declared.cell.ErrorKind.TheVariants.{TypeError}
use Rattle.mb_world.specs.Value.{Val, is_object}
use Rattle.mb_world.specs.Graph.{Graph}
use Rattle.mb_model.specs.Task.{HasProperty}
use Rattle.mb_model.specs.Writing.{Does, ◌>>=◌, give, flag, perform, type_error}
use Rattle.mb_model.specs.Operations.Descriptors.{Field, field_key, field_found, todesc_from, fields, todesc}
use Rattle.mb_model.proofs.Kept.Words.{Kept, Gets, Goes, along-stays, gets-after, gets-fail, keeps-flag}
use Rattle.mb_model.proofs.Kept.OperationsDescriptors.{keeps-field_found}

-- a descriptor that was read is of one kind

abbrev OneKind : Desc Val → Graph → Type 0
OneKind d g = IsOfOneKind d

gets-if : (kept : Kept) (g : Graph) (b : Bool) (m m' : Does (Desc Val)) → (b ≡ true → Gets kept OneKind g m) →
    (b ≡ false → Gets kept OneKind g m') → Gets kept OneKind g (if b then m else m')
gets-if kept g true m m' p p' = p refl
gets-if kept g false m m' p p' = p' refl

gets-todesc_from : (kept : Kept) (g : Graph) (s : ℕ) (x : Val) (fs : List Field) (d : Desc Val) →
    Gets kept OneKind g (todesc_from s x fs d)
gets-todesc_from kept g s x [] d =
    gets-if kept g (is_data_descriptor d && is_accessor_descriptor d) (type_error s) (give d)
    (λ e. gets-fail kept OneKind g s TypeError) (λ e k b p h. h d g (along-stays kept b g p) e)
gets-todesc_from kept g s x (f ∷ fs) d =
    gets-after kept OneKind g (flag (perform s (HasProperty (field_key f)) x))
    (λ there. field_found s x d f there >>= (λ e. todesc_from s x fs e))
    ((keeps-flag kept (perform s (HasProperty (field_key f)) x) (λ _. (λ _. tt, λ _ _. refl))).goes g)
    (λ there g' q.
    gets-after kept OneKind g' (field_found s x d f there) (λ e. todesc_from s x fs e)
    ((keeps-field_found kept s x d f there).goes g') (λ e g'' q'. gets-todesc_from kept g'' s x fs e))

pub gets-todesc : (kept : Kept) (g : Graph) (s : ℕ) (x : Val) → Gets kept OneKind g (todesc s x)
gets-todesc kept g s x =
    gets-if kept g (is_object x) (todesc_from s x fields no_fields) (type_error s)
    (λ e. gets-todesc_from kept g s x fields no_fields) (λ e. gets-fail kept OneKind g s TypeError)

pub keeps-todesc : (kept : Kept) (s : ℕ) (x : Val) → Goes kept (todesc s x)
keeps-todesc kept s x = record { goes = λ g k b p h. gets-todesc kept g s x k b p (λ d g' q one. h d g' q) }
