use Rattle.std.proofs.Common.{◌≡◌, ℕ, true, false, ap}
use Rattle.mb_world.specs.Value.{Val}
use Rattle.mb_world.specs.Graph.{Graph}
use Rattle.mb_world.specs.Objects.{thing_at}
use Rattle.mb_model.specs.Engine.{ending}
use Rattle.mb_model.specs.Task.{Method, Request, Perform, Access}
use Rattle.mb_model.specs.BuiltIns.Collections.{access_row}
use Rattle.mb_model.specs.Trace.Entries.{makes_entry, is_foreign_at, method_noted, access_noted}
use Rattle.mb_model.specs.Meaning.{row, perform_row, finished, entering, entries_made}

-- where the entries of methods and accesses are made

pub method-entered : (s v : ℕ) (m : Method) (o : Val) (g : Graph) → makes_entry true s o g ≡ true →
    row (Perform s m o v true) g ≡ ending (method_noted (entries_made g) s o m) (row (Perform s m o v false) g)
method-entered s v m o g e =
    ap (λ b. entering b (method_noted (entries_made g) s o m) (perform_row s v o m finished g)) e

pub method-own : (s v : ℕ) (m : Method) (o : Val) (g : Graph) → makes_entry true s o g ≡ false →
    row (Perform s m o v true) g ≡ row (Perform s m o v false) g
method-own s v m o g e =
    ap (λ b. entering b (method_noted (entries_made g) s o m) (perform_row s v o m finished g)) e

pub access-entered : (s p : ℕ) (c : Val) (q : Request) (g : Graph) → is_foreign_at s (thing_at g c) ≡ true →
    row (Access s p c q) g ≡ ending (access_noted (entries_made g) s p c q) (access_row s c q finished g)
access-entered s p c q g e =
    ap (λ b. entering b (access_noted (entries_made g) s p c q) (access_row s c q finished g)) e

pub access-own : (s p : ℕ) (c : Val) (q : Request) (g : Graph) → is_foreign_at s (thing_at g c) ≡ false →
    row (Access s p c q) g ≡ access_row s c q finished g
access-own s p c q g e =
    ap (λ b. entering b (access_noted (entries_made g) s p c q) (access_row s c q finished g)) e
