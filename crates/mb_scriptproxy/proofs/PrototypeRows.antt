-- What a trap of getPrototypeOf gave is an object or null.
use Rattle.std.proofs.Common.{Bool, Result, ap, false, true, ℕ, ◌||◌, ◌≡◌}
use Rattle.mb_base.specs.declared.value.ObjId.{ObjId}
use Rattle.mb_base.specs.declared.value.Side.{Side}
use Rattle.mb_base.specs.declared.value.Value.{Value}
use Rattle.mb_frames.proofs.Passed.{Part-by}
use Rattle.mb_frames.specs.Held.{HeldPrototype, HeldValue}
use Rattle.mb_frames.specs.Holding.{proxy_held}
use Rattle.mb_frames.specs.Passing.{Part}
use Rattle.mb_frames.specs.Ready.{Holds, MayHold}
use Rattle.mb_frames.specs.Stepping.{Sure}
use Rattle.mb_frames.specs.declared.frame.Frame.TheVariants as x
use Rattle.mb_frames.specs.declared.frame.Move.{Move}
use Rattle.mb_frames.specs.declared.frame.Move.TheVariants as move
use Rattle.mb_frames.specs.declared.machine.Halt.{Halt}
use Rattle.mb_frames.specs.declared.proxies.ProxyFrame.TheVariants as p
use Rattle.mb_frames.specs.declared.task.Method.TheVariants as m
use Rattle.mb_frames.specs.declared.task.Task.TheVariants as task
use Rattle.mb_model.specs.Meaning.{finished}
use Rattle.mb_model.specs.Objects.Proxies.{prototype_extensible, prototype_said, read_extensible}
use Rattle.mb_model.specs.Task.{Answer}
use Rattle.mb_model.specs.Writing.{◌>>=◌, Does, type_error, unless_type_error}
use Rattle.mb_scriptproxy.proofs.Asking.{Sure-asks}
use Rattle.mb_world.specs.Data.{Data}
use Rattle.mb_world.specs.Formed.{IsNullOrObject}
use Rattle.mb_world.specs.Image.{Image, Resolve, names_of, object_in}
use Rattle.mb_world.specs.Value.{Val, is_null, is_object}

-- what follows the test
abbrev tested : ℕ → Val → Val → Bool → Does Answer
tested s t said b = unless_type_error s b >>= (λ a. read_extensible s t >>= prototype_extensible s t said)

pub Part-no-prototype : (home : Side) (r : Result Move Halt) (d d' : Data) (f : ℕ) (target : ObjId) (said : Value)
    → (is_object (Resolve (names_of d) said) || is_null (Resolve (names_of d) said)) ≡ false
    → Part home r d d' f f (type_error home.0 finished)
    → Part home r d d' f f
    (prototype_said home.0 (object_in (names_of d) target) (Resolve (names_of d) said) finished)
Part-no-prototype home r d d' f target said e h =
    let t = object_in (names_of d) target in
    let y = Resolve (names_of d) said in
    Part-by home r d d' f f (prototype_said home.0 t y finished) (type_error home.0 finished)
    (λ log. ap (λ (b : Bool). tested home.0 t y b finished (Image d log)) e) h

pub said-held : (d : Data) (home : Side) (said : Value) → MayHold d home (HeldValue said) → IsNullOrObject said
    → MayHold d home (HeldPrototype said)
said-held d home said h k = record { within = h.within; sound = k; own = h.own }

pub said-prototype : (home : Side) (d : Data) (target : ObjId) (said : Value)
    → Holds d home (proxy_held (p.PrototypeExtensible target said))
    → (is_object (Resolve (names_of d) said) || is_null (Resolve (names_of d) said)) ≡ true
    → Sure home d (prototype_said home.0 (object_in (names_of d) target) (Resolve (names_of d) said) finished)
    (move.Wait (x.Proxy (p.PrototypeExtensible target said)) (task.Perform m.IsExtensible target home true))
said-prototype home d target said h e =
    let t = object_in (names_of d) target in
    let y = Resolve (names_of d) said in
    Sure-asks home d (p.PrototypeExtensible target said) m.IsExtensible target h (h.0, tt)
    (prototype_said home.0 t y finished)
    (λ log. ap (λ (b : Bool). tested home.0 t y b finished (Image d log)) e)
