use Rattle.std.proofs.Common.{ℕ, List, refl}
use Rattle.mb_desc.specs.declared.descriptor.Desc.{Desc}
use Rattle.mb_desc.specs.Descriptors.{IsOfOneKind}
use Rattle.mb_world.specs.Value.{Val}
use Rattle.mb_world.specs.Key.{PropertyKey}
use Rattle.mb_model.specs.Task.{Answer, DefineOwnProperty}
use Rattle.mb_model.specs.Writing.{Does, ◌>>=◌, flag, perform}
use Rattle.mb_model.specs.Operations.Descriptors.{todesc}
use Rattle.mb_model.specs.BuiltIns.Arguments.{arg, key_arg, need_object, flag_row}
use Rattle.mb_model.specs.BuiltIns.ObjectMembers.{given_back, object_define, object_define_property}
use Rattle.mb_model.specs.BuiltIns.ReflectMembers.{reflect_define}
use Rattle.mb_model.proofs.Kept.Words.{Kept, Goes, gets-then, keeps->>=, keeps-flag}
use Rattle.mb_model.proofs.Kept.Descriptors.{gets-todesc}
use Rattle.mb_model.proofs.Kept.Defined.{keeps-flag_row}
use Rattle.mb_model.proofs.Kept.BuiltInsArguments.{keeps-key_arg, keeps-need_object}
use Rattle.mb_model.proofs.Kept.BuiltInsObjectMembers.{keeps-given_back}

-- a property is defined by a descriptor that was read

-- the object, the key and the descriptor are read, and then it is defined
keeps-reading : (kept : Kept) (s : ℕ) (vs : List Val) (f : PropertyKey → Desc Val → Does Answer) →
    ((k : PropertyKey) (d : Desc Val) → (kept.cares → IsOfOneKind d) → Goes kept (f k d)) →
    Goes kept (need_object s (arg vs 0) >>= (λ _. key_arg s vs 1 >>= (λ k. todesc s (arg vs 2) >>= (λ d. f k d))))
keeps-reading kept s vs f pf =
    keeps->>= kept (need_object s (arg vs 0)) (λ _. key_arg s vs 1 >>= (λ k. todesc s (arg vs 2) >>= (λ d. f k d)))
    (keeps-need_object kept s (arg vs 0))
    (λ _. keeps->>= kept (key_arg s vs 1) (λ k. todesc s (arg vs 2) >>= (λ d. f k d)) (keeps-key_arg kept s vs 1)
    (λ k. record {
      goes = λ g.
          gets-then kept (λ d g'. IsOfOneKind d) g (todesc s (arg vs 2)) (λ d. f k d) (gets-todesc kept g s (arg vs 2))
          (λ d g' q one. (pf k d (λ c. one)).goes g');
    }))

keeps-object_define : (kept : Kept) (s : ℕ) (o : Val) (k : PropertyKey) (d : Desc Val) →
    (kept.cares → IsOfOneKind d) → Goes kept (object_define s o k d)
keeps-object_define kept s o k d one =
    keeps->>= kept (flag (perform s (DefineOwnProperty k d) o)) (λ b. given_back s o b)
    (keeps-flag kept (perform s (DefineOwnProperty k d) o) (λ _. (one, λ _ _. refl))) (λ b. keeps-given_back kept s o b)

pub keeps-object_define_property : (kept : Kept) (s : ℕ) (vs : List Val) → Goes kept (object_define_property s vs)
keeps-object_define_property kept s vs =
    keeps-reading kept s vs (λ k d. object_define s (arg vs 0) k d) (λ k d one. keeps-object_define kept s (arg vs 0) k d one)

pub keeps-reflect_define : (kept : Kept) (s : ℕ) (vs : List Val) → Goes kept (reflect_define s vs)
keeps-reflect_define kept s vs =
    keeps-reading kept s vs (λ k d. flag_row s (DefineOwnProperty k d) (arg vs 0))
    (λ k d one. keeps-flag_row kept s (DefineOwnProperty k d) (arg vs 0) one)
