-- What a world holds, as data, and what its indexes hold.
use Rattle.std.specs.Prelude.{ℕ, ◌<◌, ◌≡◌, ◌^◌, List, length, map, option_map, Option}
use Rattle.mb_base.specs.declared.value.ObjId.{ObjId}
use Rattle.mb_base.specs.declared.value.StrId.{StrId}
use Rattle.mb_text.specs.Texts.{AreDistinct}
use Rattle.mb_world.specs.declared.cell.Cell.{Cell}
use Rattle.mb_world.specs.declared.scope.Scope.{Scope}
use Rattle.mb_world.specs.declared.scope.Job.{Job}
use Rattle.mb_world.specs.declared.roles.Role.{Role}
use Rattle.mb_world.specs.declared.world.World.TheInside.{Inside}
use Rattle.mb_world.specs.Data.{Data, Script, numbers, stands, objects_of, script_of}
use Rattle.mb_world.specs.Long.{long_texts}
use Rattle.mb_world.specs.Ids.{HasItsIds}
use Rattle.mb_world.specs.machine.Roles.{AreRoles}

abbrev pub data_of : Inside → Data
data_of w = record {
  texts = w.texts;
  symbols = w.symbols.items;
  sides = w.sides;
  programs = map (option_map script_of) w.programs.items;
  cells = w.cells.items;
  scopes = w.scopes.items;
  queues = map (λ q. q.items) w.queues.items;
  entries = w.entries.items;
  rules = w.rules;
  revoked = w.revoked;
  joined = w.joined;
  halted = w.halted;
}

-- how long the lists are
pub record Sized (texts : List (List ℕ)) (symbols : List (Option StrId)) (programs : List (Option Script))
    (cells : List Cell) (scopes : List Scope) (queues : List (List Job)) : Type 0 where
  pub distinct : AreDistinct texts
  pub few_symbols : length symbols < 2 ^ 32
  pub eight_programs : length programs ≡ 8
  pub few_cells : length cells < 2 ^ 32
  pub few_scopes : length scopes < 2 ^ 32
  pub eight_queues : length queues ≡ 8

-- the indexes of the cells: their numbers, those that have one, and who plays each role
pub record Indexed (cells : List Cell) (numbers_index : List ℕ) (serials : List ObjId)
    (roles : List (Role × ObjId)) : Type 0 where
  pub numbers_are : numbers_index ≡ numbers (stands cells)
  pub serials_are : serials ≡ objects_of cells
  pub roles_are : AreRoles cells roles

-- the long texts of the trace
pub record LongIndexed (d : Data) (long : List StrId) : Type 0 where
  pub long_are : long ≡ long_texts d.texts d.entries
  pub few_long : length long < 2 ^ 32

-- the invariant of a world with its indexes
pub record IsIndexed (d : Data) (numbers_index : List ℕ) (serials : List ObjId) (roles : List (Role × ObjId))
    (long : List StrId) : Type 0 where
  pub ids : HasItsIds d
  pub sized : Sized d.texts d.symbols d.programs d.cells d.scopes d.queues
  pub indexed : Indexed d.cells numbers_index serials roles
  pub long_texts_are : LongIndexed d long

abbrev pub IsWorld : Inside → Type 0
IsWorld w = IsIndexed (data_of w) w.numbers.items w.serials.items w.roles.entries w.long.keys
