-- Along the meaning each object evolves.
use Rattle.std.proofs.Common.{◌≡◌, Some, refl, sym, ◌∙◌, subst}
use Rattle.mb_world.specs.Value.{Val, Undefined, Null, Truth, Whole, Text, Symbol, Object, BuiltIn}
use Rattle.mb_world.specs.Graph.{Graph, Thing, Kind}
use Rattle.mb_world.specs.Objects.{thing_at, with_thing, is_proxy_kind}
use Rattle.mb_model.specs.Engine.{state_of}
use Rattle.mb_model.specs.Writing.{with_object}
use Rattle.mb_model.specs.Operations.Calls.{target_is_array}
use Rattle.mb_model.specs.Meaning.{Means}
use Rattle.mb_model.proofs.Kept.Changes.{Change, Definition, PlainDefinition, Storing, Deletion, NewPrototype, Closing, Recast}
use Rattle.mb_model.proofs.Kept.Words.{Kept}
use Rattle.mb_model.proofs.Kept.Rows.{IsPlain}
use Rattle.mb_model.proofs.Kept.Given.{keeps-given, means-goes}
use Rattle.mb_growth.specs.Objects.{is_array, IsFormed}
use Rattle.mb_growth.specs.Later.{Moves, AreFormed, EachEvolves}
use Rattle.mb_growth.specs.Laws.{TasksEvolve, SidesSeeTasksEvolve}
use Rattle.mb_growth.proofs.Steps.{later-refl, ordinary-moves, deletions-move, prototypes-move, closing-moves}
use Rattle.mb_growth.proofs.Arrays.{definitions-move, elements-move}
use Rattle.mb_growth.proofs.Graphs.{stays-later, goes-on-later, one-moves, one-is-made}
use Rattle.mb_growth.proofs.Sides.{each-side-sees}
use Rattle.mb_growth.proofs.Made.{made-formed, same-array}

-- another kind, which is an array's as little or as much
recast-moves : (t : Thing) (k : Kind) → IsFormed t → target_is_array t.kind ≡ target_is_array k
    → is_proxy_kind t.kind ≡ is_proxy_kind k → Moves t (record t { kind = k })
recast-moves t k formed same proxy =
    let array : is_array t.kind ≡ is_array k = same-array t.kind ∙ same ∙ sym (same-array k) in
    let stays = later-refl t in (
      record { distinct = formed.distinct; array = λ a. formed.array (array ∙ a) },
      record { owner = refl; label = refl; array = array; proxy = proxy; evolves = stays.evolves },
    )

-- each change that a row makes of an object
change-moves : (g : Graph) (t u : Thing) → IsFormed t → Change (Unit {0}) g t u → Moves t u
change-moves g t u formed (Definition k d b one e) = definitions-move t u k d b formed (one tt) e
change-moves g t u formed (PlainDefinition k d b one e) = ordinary-moves t u k d b formed one e
change-moves g t u formed (Storing n v b array e) = elements-move t u n v b formed (same-array t.kind ∙ array) e
change-moves g t u formed (Deletion v k free e) = deletions-move g v t u k formed free e
change-moves g t u formed (NewPrototype p extensible e) = subst (Moves t) e (prototypes-move t p formed (extensible tt))
change-moves g t u formed (Closing e) = subst (Moves t) e (closing-moves t formed)
change-moves g t u formed (Recast k same proxy none e) = subst (Moves t) e (recast-moves t k formed same proxy)

-- the graph is formed, and each object of an earlier one is there in a later form
abbrev pub Grows : Graph → Graph → Type 0
Grows f g = AreFormed g × EachEvolves f g

pub change-grows : (g : Graph) (o : Val) (t u : Thing) → thing_at g o ≡ Some t → Change (Unit {0}) g t u → AreFormed g
    → Grows g (with_thing o u g)
change-grows g (Object n) t u at by formed = one-moves g (Object n) t u formed at (change-moves g t u (formed n t at) by)
change-grows g Undefined t u at by formed = (formed, stays-later g)
change-grows g Null t u at by formed = (formed, stays-later g)
change-grows g (Truth b) t u at by formed = (formed, stays-later g)
change-grows g (Whole z) t u at by formed = (formed, stays-later g)
change-grows g (Text x) t u at by formed = (formed, stays-later g)
change-grows g (Symbol x) t u at by formed = (formed, stays-later g)
change-grows g (BuiltIn p) t u at by formed = (formed, stays-later g)

pub grows-on : (f g h : Graph) → Grows f g → Grows g h → Grows f h
grows-on f g h p q = (q.0, goes-on-later f g h p.1 q.1)

abbrev pub growing : Kept
growing = record {
  cares = Unit {0};
  owns = ⊥;
  to = Grows;
  owed = λ b o g. Unit {0};
  ended = λ b g o abrupt h. tt;
  known = λ t s o g. Unit {0};
  stays = λ f g p. (p.0, stays-later g);
  goes_on = grows-on;
  made = λ f g t new p. grows-on f g (with_object t g) p (one-is-made g t p.0 (made-formed g t new));
  moved = λ f g o t u at by p. grows-on f g (with_thing o u g) p (change-grows g o t u at by p.0);
  symbols = λ f g ds p. p;
  scopes = λ f g ss last p. p;
  log = λ f g i none p. p;
  job = λ f g s v p. p;
}

pub plainly : IsPlain growing
plainly = record { owes = λ b g o h. tt; knows = λ t s g o. tt; notes = λ b g e p. p }

pub tasks-evolve : TasksEvolve
tasks-evolve task graph fuel fit formed =
    means-goes growing plainly task graph fuel (λ c. fit, λ c. absurd c) (formed, stays-later graph)

pub sides-see-tasks-evolve : SidesSeeTasksEvolve
sides-see-tasks-evolve task graph fuel fit formed v n t at =
    let later = (tasks-evolve task graph fuel fit formed).1 n t at in
    let given = keeps-given task graph fuel in
    (later.0, later.1, each-side-sees graph (state_of (Means task graph fuel)) v t later.0 given.1 later.2)
