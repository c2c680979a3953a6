use Rattle.std.proofs.Common.{ap, sym, ◌∙◌, is_some, Some, cond}
use Rattle.std.specs.Map.{lookup}
use Rattle.mb_world.specs.machine.Roles.{noted, same_role}
use Rattle.mb_world.proofs.Noted.{same, same_role-equal, same_role-same}
use Rattle.mb_world.proofs.Firsts.{note-new, none-of}
use Rattle.mb_world.proofs.roles.note.Goals as goal

pub returns-clause-noted : goal.returns-clause-noted
returns-clause-noted c =
    note-new same_role same_role-equal same_role-same c.args.roles.now.entries c.insert.new.self.entries c.args.role c.args.id
    (none-of (noted c.args.roles.now.entries c.args.role) (ap (λ eq. is_some (lookup (eq c.args.role) c.args.roles.now.entries)) (sym same) ∙ sym c.contains_key.ensures ∙ c.if-contains_key.false))
    (λ q. sym (ap (λ eq. lookup (eq q) c.insert.new.self.entries) same) ∙ c.in_ok-insert.ensures.updates.0 q ∙ ap (λ eq. cond (eq c.args.role q) (Some c.args.id) (lookup (eq q) c.args.roles.now.entries)) same)
