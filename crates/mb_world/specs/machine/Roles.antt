-- The index of proxies and built-ins: for each role, the first cell that plays it.
use Rattle.std.specs.Prelude.{◌≡◌, nat_eq, Bool, false, ◌&&◌, List, Option, option_map, position}
use Rattle.std.specs.Map.{lookup}
use Rattle.mb_base.specs.declared.value.ObjId.{ObjId}
use Rattle.mb_base.specs.declared.value.Side.{Side}
use Rattle.mb_world.specs.declared.cell.Cell.{Cell}
use Rattle.mb_world.specs.declared.roles.Role.{Role}
use Rattle.mb_world.specs.declared.roles.Role.TheVariants.{ProxyOf, BuiltInOf, BuiltIn}
use Rattle.mb_world.specs.Data.{obj_id, same_side, stand, Stand, stands_at, stands_before}

abbrev pub same_role : Role → Role → Bool
same_role (ProxyOf s o) (ProxyOf t p) = nat_eq s.0 t.0 && nat_eq o.0 p.0
same_role (BuiltInOf s n) (BuiltInOf t m) = nat_eq s.0 t.0 && nat_eq n m
same_role (BuiltIn n) (BuiltIn m) = nat_eq n m
same_role _ _ = false

-- a cell of that home that stands so plays the role
abbrev pub plays_by : Role → Side → Stand → Bool
plays_by (ProxyOf side id) home s = same_side side home && stands_before id.0 s
plays_by (BuiltInOf side place) home s = same_side side home && stands_at place s
plays_by (BuiltIn place) home s = stands_at place s

abbrev pub plays : Role → Cell → Bool
plays role c = plays_by role c.home (stand c)

-- the first cell that plays a role
abbrev pub player : List Cell → Role → Option ObjId
player cells role = option_map obj_id (position (plays role) cells)

-- what an index has for a role
abbrev pub noted : List (Role × ObjId) → Role → Option ObjId
noted roles role = lookup (same_role role) roles

abbrev pub AreRoles : List Cell → List (Role × ObjId) → Type 0
AreRoles cells roles = (role : Role) → noted roles role ≡ player cells role
