use Rattle.mb_frames.proofs.HeldAs.{built-in-held, function-callable, held-as}
use Rattle.mb_frames.proofs.HeldCells.{cell-held, code-held, constant-held, jobs-held, property-held, reads-home, scope-held}
use Rattle.mb_frames.proofs.Standard.{is-fixed, is-standard}
use Rattle.mb_frames.proofs.ready.what_a_ready_world_holds.Goals as goal

pub returns-clause-object : goal.returns-clause-object
returns-clause-object c home d id x e h s = held-as d id x e home h s

pub returns-clause-home : goal.returns-clause-home
returns-clause-home c home d id x h e u = reads-home d home id x h e u

pub returns-clause-cell : goal.returns-clause-cell
returns-clause-cell c home d id x r e h = cell-held d r id x e home h

pub returns-clause-property : goal.returns-clause-property
returns-clause-property c home d id key full r h e = property-held d r home id key full h e

pub returns-clause-code : goal.returns-clause-code
returns-clause-code c d id x code r e k = code-held d r id x e code k

pub returns-clause-scope : goal.returns-clause-scope
returns-clause-scope c home d id s r e h = scope-held d r home id s e h

pub returns-clause-jobs : goal.returns-clause-jobs
returns-clause-jobs c home d r i = jobs-held d r home i

pub returns-clause-function : goal.returns-clause-function
returns-clause-function c home d id h = function-callable d home id h

pub returns-clause-standard : goal.returns-clause-standard
returns-clause-standard c d id x place r e k = is-standard d r id x place e k

pub returns-clause-fixed : goal.returns-clause-fixed
returns-clause-fixed c d id x place r e k = is-fixed d r id x place e k

pub returns-clause-constant : goal.returns-clause-constant
returns-clause-constant c home d place rule key value r e k = constant-held d r home place rule key value e k

pub returns-clause-built_in : goal.returns-clause-built_in
returns-clause-built_in c home d place id h = built-in-held d home place id h
