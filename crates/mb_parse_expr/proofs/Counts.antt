-- Counts of operands, and moves that take a token.
use Rattle.std.proofs.Common.{◌≡◌, ℕ, ◌+◌, ◌<◌, ◌≤◌, Bool, true, false, List, ◌∷◌, length, Option, Some, None, refl, ap, subst, ◌∙◌, arith}
use Rattle.std.specs.Prelude.{slice_get, nat_lt, nat_eq, if◌then◌else◌}
use Rattle.std.proofs.lemmas.Option.{slice_get_within}
use Rattle.mb_base.specs.declared.value.NodeId.{NodeId}
use Rattle.mb_token.specs.declared.token.Spanned.{Spanned}
use Rattle.mb_tree.specs.declared.kind.Kind.TheVariants as kd
use Rattle.mb_tree.specs.Roses.{Rose, Roses, none, more, Shape, size, bare}
use Rattle.mb_tree.specs.machine.Operands.{pushed}
use Rattle.mb_tree.proofs.Written.{places_length}
use Rattle.mb_grammar.specs.declared.role.Role.TheVariants as r
use Rattle.mb_parse_expr.specs.declared.role.Follow.{Follow}
use Rattle.mb_grammar.specs.declared.level.Level.{Level}
use Rattle.mb_grammar.specs.declared.function.Maker.{Maker}
use Rattle.mb_grammar.specs.declared.function.Maker.TheVariants as mk
use Rattle.mb_parse_expr.specs.declared.machine.Frame.{Frame}
use Rattle.mb_parse_expr.specs.declared.machine.Frame.TheVariants as f
use Rattle.mb_parse_expr.specs.declared.machine.Mode.{Mode}
use Rattle.mb_parse_expr.specs.declared.machine.Mode.TheVariants as mo
use Rattle.mb_parse_expr.specs.declared.machine.Move.{Move}
use Rattle.mb_parse_expr.specs.declared.machine.Move.TheVariants.{Leaf, Enter, Begin, Swap, Build, Suffix, Turn, Pause, Wrong}
use Rattle.mb_grammar.specs.Tokens.{role_of, token_of, token_at, role_at, after_line_at}
use Rattle.mb_parse_expr.specs.machine.Machine.{hole, value_move, taken_move, close_move, param_move, comma_move, head_move, block_move, open_move, property_move, key_move, keyed_move, item_move, move_of, ahead_at, follow_at, count_of, block_of, Going}
use Rattle.mb_tree.specs.machine.Stack.{laid, top}
use Rattle.mb_parse_expr.specs.machine.Covers.{Commas, no_comma, comma_more, PropertyCommas, no_property_yet, property_more, NameCommas, no_name, name_more, Spine, in_args, in_new_args, in_array, in_seq, in_arrow, Objects, in_object, Titled, title_read, Headed, headed, InParams, in_params, InComma, in_comma, InHead, in_head, Arrowed, arrowed, Ready, ready_arrow, ready_made, Braced, braced, Blocked, blocked, Dotted, dotted, Accessing, getting, setting, KeyRead, key_read, ItemRead, item_read, Behind, behind_operand, behind_short, Good}
use Rattle.mb_parse_expr.specs.machine.Progress.{Reading}
use Rattle.mb_parse_expr.proofs.Place.{Chosen}

pushed_length : (parts : Roses) (rs : List Rose) → length (pushed parts rs) ≡ size parts + length rs
pushed_length none rs = omega arith
pushed_length (more p parts) rs = pushed_length parts (p ∷ rs) ∙ omega arith

commas_length : {ts : List Spanned} {n : ℕ} {rs rs' : List Rose} {ds es : List ℕ} {i k : ℕ} → Commas ts n rs rs' ds es i k → n ≤ length rs'
commas_length no_comma = omega arith
commas_length (comma_more c d e m k) = omega (arith, m, commas_length c)

properties_length : {ts : List Spanned} {n : ℕ} {rs rs' : List Rose} {ds es : List ℕ} {i k : ℕ} → PropertyCommas ts n rs rs' ds es i k → n ≤ length rs'
properties_length no_property_yet = omega arith
properties_length (property_more c d e m k) = omega (arith, m, properties_length c)

names_length : {ts : List Spanned} {maker : Maker} {n : ℕ} {rs rs' : List Rose} {i k : ℕ} → NameCommas ts maker n rs rs' i k → n ≤ length rs'
names_length no_name = omega arith
names_length (name_more y c d e m k) = omega (arith, m, names_length c)

module _ {ts : List Spanned} {level : Level} {start : ℕ} where
  spine_count : {fs : List Frame} {rs : List Rose} {ds : List ℕ} {at : ℕ} → Spine ts level start fs rs ds at → count_of (top fs) ≤ length rs
  spine_count (in_args sp u d o c) = commas_length c
  spine_count (in_new_args sp w d o c) = commas_length c
  spine_count (in_array sp o c) = commas_length c
  spine_count (in_seq sp u c) = commas_length c
  spine_count (in_arrow {parts = parts} {rs = rs} sp p o q c g k n) = omega (arith, c, ap length g, pushed_length parts rs)
  spine_count _ = omega arith

  objects_count : {fs : List Frame} {rs : List Rose} {ds : List ℕ} {at : ℕ} → Objects ts level start fs rs ds at → count_of (top fs) ≤ length rs
  objects_count (in_object sp o c) = properties_length c

  arrowed_count : {fs : List Frame} {rs : List Rose} {ds : List ℕ} {at : ℕ} → Arrowed ts level start fs rs ds at → count_of (top fs) ≤ length rs
  arrowed_count (arrowed {parts = parts} {rs = rs} sp h a l c g k) = omega (arith, c, ap length g, pushed_length parts rs)

  ready_count : {fs : List Frame} {rs : List Rose} {ds : List ℕ} {at : ℕ} → Ready ts level start fs rs ds at → count_of (top fs) ≤ length rs
  ready_count (ready_arrow a) = arrowed_count a
  ready_count (ready_made {keys = keys} {parts = parts} {rs = rs} un b o p c n g k) = omega (arith, n, ap length g, pushed_length parts (pushed keys rs))

  braced_count : {fs : List Frame} {rs : List Rose} {ds : List ℕ} {at : ℕ} → Braced ts level start fs rs ds at → count_of (top fs) ≤ length rs
  braced_count (braced g o k e) = ready_count g

  block_count : {fs : List Frame} {rs : List Rose} {ds : List ℕ} {n at : ℕ} → Blocked ts level start fs rs ds n at → count_of (top fs) + n ≤ length rs
  block_count (blocked {body = body} {rs = rs} b st cb k y v) = omega (arith, braced_count b, v, ap length y, pushed_length body rs)

  behind_count : {fs : List Frame} {rs : List Rose} {ds : List ℕ} {l at : ℕ} → Behind ts level start fs rs ds l at → count_of (top fs) ≤ length rs
  behind_count (behind_operand sp st) = omega (arith, spine_count sp)
  behind_count (behind_short o n g p k) = omega arith

  dotted_count : {fs : List Frame} {rs : List Rose} {ds : List ℕ} {l at : ℕ} → Dotted ts level start fs rs ds l at → count_of (top fs) ≤ length rs
  dotted_count (dotted sp u st o q) = omega (arith, spine_count sp)

  titled_count : {fs : List Frame} {rs : List Rose} {ds : List ℕ} {at : ℕ} → Titled ts level start fs rs ds at → count_of (top fs) ≤ length rs
  titled_count (title_read sp o k) = omega arith

  headed_count : {fs : List Frame} {rs : List Rose} {ds : List ℕ} {at : ℕ} → Headed ts level start fs rs ds at → count_of (top fs) ≤ length rs
  headed_count (headed un b g) = omega arith

  params_count : {fs : List Frame} {rs : List Rose} {ds : List ℕ} {at : ℕ} → InParams ts level start fs rs ds at → count_of (top fs) ≤ length rs
  params_count (in_params un op o c) = names_length c

  comma_count : {fs : List Frame} {rs : List Rose} {ds : List ℕ} {at : ℕ} → InComma ts level start fs rs ds at → count_of (top fs) ≤ length rs
  comma_count (in_comma un op o c y w k) = omega (arith, names_length c)

  head_count : {fs : List Frame} {rs : List Rose} {ds : List ℕ} {at : ℕ} → InHead ts level start fs rs ds at → count_of (top fs) ≤ length rs
  head_count (in_head {parts = parts} {rs = rs} sp h c g) = omega (arith, c, ap length g, pushed_length parts rs)

  accessing_count : {fs : List Frame} {rs : List Rose} {ds : List ℕ} {at : ℕ} → Accessing ts level start fs rs ds at → count_of (top fs) ≤ length rs
  accessing_count (getting o g k) = omega arith
  accessing_count (setting o g k) = omega arith

  key_count : {fs : List Frame} {rs : List Rose} {ds : List ℕ} {at : ℕ} → KeyRead ts level start fs rs ds at → count_of (top fs) ≤ length rs
  key_count (key_read o d g) = omega arith

  item_count : {fs : List Frame} {rs : List Rose} {ds : List ℕ} {at : ℕ} → ItemRead ts level start fs rs ds at → count_of (top fs) ≤ length rs
  item_count (item_read o d) = omega (arith, objects_count o)

good_count : (ts : List Spanned) (level : Level) (start : ℕ) (fs : List Frame) (rs : List Rose) (ds : List ℕ) (mode : Mode) (at : ℕ) → Good ts level start (Going fs rs ds mode at) → count_of (top fs) + block_of mode ≤ length rs
good_count ts level start fs rs ds mo.Operand at g = omega (arith, spine_count g)
good_count ts level start fs rs ds mo.Body at g = omega (arith, arrowed_count g)
good_count ts level start fs rs ds (mo.After l) at g = omega (arith, behind_count g)
good_count ts level start fs rs ds (mo.Block n) at g = block_count g
good_count ts level start fs rs ds (mo.Word l) at g = omega (arith, dotted_count g)
good_count ts level start fs rs ds mo.Title at g = omega (arith, titled_count g)
good_count ts level start fs rs ds mo.Open at g = omega (arith, headed_count g)
good_count ts level start fs rs ds mo.Param at g = omega (arith, params_count g)
good_count ts level start fs rs ds mo.Comma at g = omega (arith, comma_count g)
good_count ts level start fs rs ds mo.Arrow at g = omega (arith, head_count g)
good_count ts level start fs rs ds mo.Brace at g = omega (arith, ready_count g)
good_count ts level start fs rs ds mo.Property at g = omega (arith, objects_count g)
good_count ts level start fs rs ds mo.Key at g = omega (arith, accessing_count g)
good_count ts level start fs rs ds mo.Keyed at g = omega (arith, key_count g)
good_count ts level start fs rs ds mo.Item at g = omega (arith, item_count g)

pub reading_count : {ts : List Spanned} {level : Level} {start : ℕ} {base : List Shape} {ds : List ℕ} {frames : List Frame} {mode : Mode} {at : ℕ} {ids : List NodeId} {shapes : List Shape} (h : Reading ts level start base ds frames mode at ids shapes) (o : Option Frame) → ((fs : List Frame) → frames ≡ laid fs → o ≡ top fs) → count_of o + block_of mode ≤ length ids
reading_count {ts = ts} {level = level} {start = start} {base = base} {ds = ds} {mode = mode} {at = at} h o tops =
    let e = tops h.fs h.frames_are in
    let g = good_count ts level start h.fs h.rs ds mode at h.progress.sound in
    let q : count_of o ≡ count_of (top h.fs) = ap count_of e in
    omega (arith, g, q, ap length h.ids_are, places_length base h.rs)

-- a move that takes the token finds one
abbrev pub Takes : Move → Type 0
Takes (Leaf label mode) = Unit {0}
Takes (Begin label frame mode) = Unit {0}
Takes (Enter frame mode) = Unit {0}
Takes (Swap frame mode) = Unit {0}
Takes (Suffix label mode) = Unit {0}
Takes (Turn mode) = Unit {0}
Takes Pause = Unit {0}
Takes (Build label n mode true) = Unit {0}
Takes _ = ⊥

value_none : (o : Option Frame) (ahead : Bool) → Takes (value_move o r.Other ahead) → ⊥
value_none None ahead h = h
value_none (Some f.Or) ahead h = h
value_none _ ahead h = h

new_none : (b : Bool) → Takes (if b then Wrong else Build (bare kd.New) 1 (mo.After 16) false) → ⊥
new_none true h = h
new_none false h = h

close_none : (o : Option Frame) (l : ℕ) → Takes (close_move o l r.Other) → ⊥
close_none None l h = h
close_none (Some f.New) l h = new_none (nat_eq l 17) h
close_none (Some (f.Made mk.Arrow n)) l h = h
close_none (Some (f.Made maker n)) l h = made_none maker n h
  where
    made_none : (maker : Maker) (n : ℕ) → Takes (close_move (Some (f.Made maker n)) l r.Other) → ⊥
    made_none mk.Arrow n h = h
    made_none _ n h = h
close_none (Some (f.Start level)) l h = start_none level h
  where
    start_none : (level : Level) → Takes (close_move (Some (f.Start level)) l r.Other) → ⊥
    start_none level h = h
close_none _ l h = h

taken_none : (o : Option Frame) (l : ℕ) → Takes (taken_move o l r.Other) → ⊥
taken_none None l h = h
taken_none (Some f.New) l h = h
taken_none _ l h = h

block_none : (o : Option Frame) (n : ℕ) → Takes (block_move o n) → ⊥
block_none None n h = h
block_none (Some (f.Made maker m)) n h = h
block_none _ n h = h

open_none : (o : Option Frame) → Takes (open_move o r.Other) → ⊥
open_none None h = h
open_none (Some (f.Header maker)) h = h
open_none _ h = h

param_none : (o : Option Frame) → Takes (param_move o r.Other) → ⊥
param_none None h = h
param_none (Some (f.Params mk.Arrow n)) h = h
param_none (Some (f.Params (mk.Function name) n)) h = h
param_none (Some (f.Params (mk.Method p) n)) h = h
param_none (Some (f.Params (mk.Getter p) n)) h = h
param_none (Some (f.Params (mk.Setter p) n)) h = h
param_none _ h = h

comma_none : (o : Option Frame) → Takes (comma_move o r.Other) → ⊥
comma_none None h = h
comma_none (Some (f.Params mk.Arrow n)) h = h
comma_none (Some (f.Params (mk.Function name) n)) h = h
comma_none (Some (f.Params (mk.Method p) n)) h = h
comma_none (Some (f.Params (mk.Getter p) n)) h = h
comma_none (Some (f.Params (mk.Setter p) n)) h = h
comma_none _ h = h

head_none : (o : Option Frame) (after_line : Bool) → Takes (head_move o r.Other after_line) → ⊥
head_none None after_line h = h
head_none (Some (f.Head n)) after_line h = h
head_none _ after_line h = h

property_none : (o : Option Frame) (follow : Follow) → Takes (property_move o None follow) → ⊥
property_none None follow h = h
property_none (Some (f.Object n)) follow h = h
property_none _ follow h = h

key_none : (o : Option Frame) → Takes (key_move o None) → ⊥
key_none None h = h
key_none (Some (f.Accessor u)) h = h
key_none _ h = h

keyed_none : (o : Option Frame) → Takes (keyed_move o r.Other) → ⊥
keyed_none None h = h
keyed_none (Some (f.Key p)) h = h
keyed_none _ h = h

item_none : (o : Option Frame) → Takes (item_move o r.Other) → ⊥
item_none None h = h
item_none (Some (f.Object n)) h = h
item_none _ h = h

none_takes : (o : Option Frame) (mode : Mode) (after_line ahead : Bool) (follow : Follow) → Takes (move_of o mode None r.Other after_line ahead follow) → ⊥
none_takes o mo.Operand after_line ahead follow h = value_none o ahead h
none_takes o mo.Body after_line ahead follow h = value_none o ahead h
none_takes o (mo.Block n) after_line ahead follow h = block_none o n h
none_takes o (mo.Word l) after_line ahead follow h = h
none_takes o mo.Title after_line ahead follow h = h
none_takes o mo.Open after_line ahead follow h = open_none o h
none_takes o mo.Param after_line ahead follow h = param_none o h
none_takes o mo.Comma after_line ahead follow h = comma_none o h
none_takes o mo.Arrow after_line ahead follow h = head_none o after_line h
none_takes o mo.Brace after_line ahead follow h = h
none_takes o mo.Property after_line ahead follow h = property_none o follow h
none_takes o mo.Key after_line ahead follow h = key_none o h
none_takes o mo.Keyed after_line ahead follow h = keyed_none o h
none_takes o mo.Item after_line ahead follow h = item_none o h
none_takes o (mo.After l) after_line ahead follow h = each (nat_lt l (hole o)) (nat_lt 0 (hole o)) (nat_lt l 0) h
  where
    each : (a b d : Bool) → Takes (if a then Wrong else (if b then close_move o l r.Other else (if d then Wrong else taken_move o l r.Other))) → ⊥
    each true b d q = q
    each false true d q = close_none o l q
    each false false true q = q
    each false false false q = taken_none o l q

pub taken_within : (ts : List Spanned) (o : Option Frame) (mode : Mode) (at : ℕ) → Takes (move_of o mode (token_at ts at) (role_at ts at) (after_line_at ts at) (ahead_at ts at) (follow_at ts at)) → at < length ts
taken_within ts o mode at h = each (slice_get ts at) refl h
  where
    each : (x : Option Spanned) → slice_get ts at ≡ x → Takes (move_of o mode (token_at ts at) (role_at ts at) (after_line_at ts at) (ahead_at ts at) (follow_at ts at)) → at < length ts
    each None q z = absurd (none_takes o mode (after_line_at ts at) (ahead_at ts at) (follow_at ts at) (subst (λ y. Takes (move_of o mode (token_of y) (role_of (token_of y)) (after_line_at ts at) (ahead_at ts at) (follow_at ts at))) q z))
    each (Some s) q z = slice_get_within ts at s q

pub chosen_within : {ts : List Spanned} {frames : List Frame} {mode : Mode} {at : ℕ} {move : Move} → Chosen ts frames mode at move → Takes move → at < length ts
chosen_within {ts = ts} {mode = mode} {at = at} c h = taken_within ts c.o mode at (subst Takes c.is h)
