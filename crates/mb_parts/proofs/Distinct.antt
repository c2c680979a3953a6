-- The names that the scope of a node binds are distinct, but for the name of its own that a function expression has.
use Rattle.std.proofs.Common.{None, Option, Some, ap, is_some, nat_eq, refl, slice_get, subst, sym, true, true≢false}
use Rattle.std.proofs.Common.{◌∙◌, ◌≡◌}
use Rattle.std.specs.List.{IsDistinct}
use Rattle.std.specs.Option.{option_map}
use Rattle.mb_base.specs.declared.value.NodeId.{NodeId}
use Rattle.mb_base.specs.declared.value.Side.{Side}
use Rattle.mb_frames.proofs.Forms.{All-at as All-or}
use Rattle.mb_frames.proofs.Reading.{form-past, form-read}
use Rattle.mb_frames.specs.Grammatical.{IsGrammatical, IsProgram, bound_at, without_own}
use Rattle.mb_frames.specs.Ready.{IsReady}
use Rattle.mb_frames.specs.Standing.{forms_at}
use Rattle.mb_frames.specs.Told.{told_at}
use Rattle.mb_parts.specs.Scopes.{bound_by}
use Rattle.mb_tree.specs.Form as t
use Rattle.mb_tree.specs.Names.{Binds}
use Rattle.mb_tree.specs.Roses.{Shape}
use Rattle.mb_world.proofs.Grow.{All-at}
use Rattle.mb_world.specs.Data.{Data, Script, program_of}
use Rattle.mb_world.specs.Ids.{Maybe}
use Rattle.mb_world.specs.Image.{program_in}

-- the node's form, and its names
pub record NamesApart (d : Data) (home : Side) (node : NodeId) : Type 0 where
  pub form : t.Form
  pub there : slice_get (forms_at d home) node.0 ≡ Some (told_at d home form)
  pub distinct : IsDistinct (λ (a b : Binds). nat_eq a.1.0 b.1.0)
      (without_own (Some form) (bound_by (program_of d home) node))

module _ (d : Data) (home : Side) (node : NodeId) (h : is_some (slice_get (forms_at d home) node.0) ≡ true) where
  read : (p : Script) → program_of d home ≡ Some p → IsProgram p → (x : Shape) → slice_get p.nodes node.0 ≡ Some x
      → (f : Option t.Form) → t.form_of x ≡ f → NamesApart d home node
  read p e g x q None k =
      absurd (true≢false (sym (All-at (IsGrammatical p.nodes) p.nodes node.0 x q g.nodes).form ∙ ap is_some k))
  read p e g x q (Some f) k = record {
    form = f;
    there =
        sym (ap (option_map (told_at d home)) (sym k)
        ∙ form-read d home p node.0 x e q (All-at (IsGrammatical p.nodes) p.nodes node.0 x q g.nodes));
    distinct = rw e
        (subst (λ (o : Option t.Form). IsDistinct (λ (a b : Binds). nat_eq a.1.0 b.1.0)
        (without_own o (bound_at p node))) k
        (g.distinct node x q));
  }

  there : (p : Script) → program_of d home ≡ Some p → IsProgram p → (x : Option Shape) → slice_get p.nodes node.0 ≡ x
      → NamesApart d home node
  there p e g None q = absurd (true≢false (sym h ∙ ap is_some (form-past d home p node.0 e q)))
  there p e g (Some x) q = read p e g x q (t.form_of x) refl

  by-program : (p : Option Script) → program_of d home ≡ p → Maybe IsProgram p → NamesApart d home node
  by-program None e g =
      absurd (true≢false (sym h
      ∙ ap (λ (o : Option Script). is_some (slice_get (program_in d.texts o).forms node.0)) e))
  by-program (Some p) e g = there p e g (slice_get p.nodes node.0) refl

  pub names-apart : IsReady d → NamesApart d home node
  names-apart r =
      by-program (program_of d home) refl (All-or (Maybe IsProgram) d.programs home.0 None r.formed.programs tt)
