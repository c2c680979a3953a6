use Rattle.std.specs.Prelude.{ℕ, List, length, Option}
use Rattle.mb_world.specs.Value.{Val}
use Rattle.mb_world.specs.Graph.{Plain}
use Rattle.mb_world.specs.Standard.{array_prototype}
use Rattle.mb_world.specs.Objects.{new_thing}
use Rattle.mb_model.specs.Operations.Makings.{make_plain, array_thing, make_array}
use Rattle.std.proofs.Common.{refl}
use Rattle.mb_model.proofs.Kept.Words.{Kept, Goes, keeps-make}
use Rattle.mb_model.proofs.Kept.Made.{new-array_thing, new-new_thing}

-- what the parts of these rows keep (written by tools/kept.py)

pub keeps-make_plain : (kept : Kept) (x0 : ℕ) (x1 : Option (List ℕ)) (x2 : Val) → Goes kept (make_plain x0 x1 x2)
keeps-make_plain kept s label p = keeps-make kept (new_thing s label Plain p) (new-new_thing s label Plain p refl)

pub keeps-make_array : (kept : Kept) (x0 : ℕ) (x1 : List Val) → Goes kept (make_array x0 x1)
keeps-make_array kept s vs = keeps-make kept (array_thing s array_prototype (length vs) vs) (new-array_thing s
    array_prototype (length vs) vs)
