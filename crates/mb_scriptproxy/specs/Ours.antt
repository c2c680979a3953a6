-- Which frames are those of script-made Proxies: their methods, what makes them and what revokes them.
use Rattle.std.specs.Prelude.{Bool, IsSomeAnd, Option, Some, false, true, ◌≡◌}
use Rattle.mb_frames.specs.declared.frame.Frame.{Frame}
use Rattle.mb_frames.specs.declared.frame.Frame.TheVariants as x
use Rattle.mb_frames.specs.declared.task.Task.{Task}
use Rattle.mb_frames.specs.declared.task.Task.TheVariants as t
use Rattle.mb_world.specs.Data.{Data, cell_at}
use Rattle.mb_world.specs.Formed.{IsProxyKind}
use Rattle.mb_world.specs.Intrinsics.{Intrinsic, Proxy, ProxyRevocable, intrinsic}
use Rattle.mb_world.specs.declared.cell.Cell.{Cell}
use Rattle.mb_world.specs.declared.cell.CellKind.{CellKind}
use Rattle.mb_world.specs.declared.cell.CellKind.TheVariants.{Revoker}

-- a script-made Proxy, revoked or not
abbrev pub IsProxy : Option Cell → Type 0
IsProxy c = IsSomeAnd c (λ y. IsProxyKind y.kind)

abbrev pub IsRevokerKind : CellKind → Type 0
IsRevokerKind (Revoker proxy) = Unit {0}
IsRevokerKind kind = ⊥

-- the function that Proxy.revocable makes
abbrev pub IsRevoker : Option Cell → Type 0
IsRevoker c = IsSomeAnd c (λ y. IsRevokerKind y.kind)

-- Proxy and Proxy.revocable
abbrev pub makes_proxies : Option Intrinsic → Bool
makes_proxies (Some Proxy) = true
makes_proxies (Some ProxyRevocable) = true
makes_proxies place = false

abbrev pub IsProxyTask : Data → Task → Type 0
IsProxyTask d (t.Perform method object viewer enters) = IsProxy (cell_at d object)
IsProxyTask d (t.Run place this arguments target) = makes_proxies (intrinsic place) ≡ true
IsProxyTask d (t.Enter function this arguments) = IsRevoker (cell_at d function)
IsProxyTask d task = ⊥

abbrev pub IsProxyFrame : Data → Frame → Type 0
IsProxyFrame d (x.Begin task) = IsProxyTask d task
IsProxyFrame d (x.Begun task) = IsProxyTask d task
IsProxyFrame d (x.Anew task) = IsProxyTask d task
IsProxyFrame d (x.Proxy frame) = Unit {0}
IsProxyFrame d frame = ⊥
