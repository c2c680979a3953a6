use Rattle.std.proofs.Common.{refl}
use Rattle.mb_frames.specs.Sorts.{AValue}
use Rattle.mb_frames.specs.declared.reflecting.ReflectFrame.TheVariants as r
use Rattle.mb_frames.specs.declared.task.Method.TheVariants as m
use Rattle.mb_reflect.proofs.Doing.{leaves-asked, leaves-passed, sure-asked, sure-passed}
use Rattle.mb_reflect.proofs.asking.asks.Goals as goal

pub returns-in-Keys : goal.returns-in-Keys
returns-in-Keys c = record {
  sure = λ d a.
      rw (c.in-Keys.is, c.waits.ensures)
      (sure-asked c.args.home d (r.KeysListed c.args.object) m.OwnPropertyKeys c.args.object (a.holds.0.within, tt)
      (a.holds.0.within, tt));
  leaves = λ d a.
      rw c.waits.ensures
      (leaves-asked c.args.home d (r.KeysListed c.args.object) m.OwnPropertyKeys c.args.object AValue a.holds a.holds
      refl refl);
}

pub returns-in-Symbols : goal.returns-in-Symbols
returns-in-Symbols c = record {
  sure = λ d a.
      rw (c.in-Symbols.is, c.waits-in-Symbols.ensures)
      (sure-asked c.args.home d (r.SymbolsListed) m.OwnPropertyKeys c.args.object tt (a.holds.0.within, tt));
  leaves = λ d a.
      rw c.waits-in-Symbols.ensures
      (leaves-asked c.args.home d (r.SymbolsListed) m.OwnPropertyKeys c.args.object AValue tt a.holds refl refl);
}

pub returns-in-OwnKeys : goal.returns-in-OwnKeys
returns-in-OwnKeys c = record {
  sure = λ d a.
      rw (c.in-OwnKeys.is, c.waits-in-OwnKeys.ensures)
      (sure-asked c.args.home d (r.OwnKeys) m.OwnPropertyKeys c.args.object tt (a.holds.0.within, tt));
  leaves = λ d a.
      rw c.waits-in-OwnKeys.ensures
      (leaves-asked c.args.home d (r.OwnKeys) m.OwnPropertyKeys c.args.object AValue tt a.holds refl refl);
}

pub returns-in-Extensible : goal.returns-in-Extensible
returns-in-Extensible c = record {
  sure = λ d a.
      rw (c.in-Extensible.is, c.waits-in-Extensible.ensures)
      (sure-asked c.args.home d (r.Truth) m.IsExtensible c.args.object tt (a.holds.0.within, tt));
  leaves = λ d a.
      rw c.waits-in-Extensible.ensures
      (leaves-asked c.args.home d (r.Truth) m.IsExtensible c.args.object AValue tt a.holds refl refl);
}

pub returns-in-Prevent : goal.returns-in-Prevent
returns-in-Prevent c = record {
  sure = λ d a.
      rw (c.in-Prevent.is, c.waits-in-Prevent.ensures)
      (sure-asked c.args.home d (r.Truth) m.PreventExtensions c.args.object tt (a.holds.0.within, tt));
  leaves = λ d a.
      rw c.waits-in-Prevent.ensures
      (leaves-asked c.args.home d (r.Truth) m.PreventExtensions c.args.object AValue tt a.holds refl refl);
}

pub returns-in-Prototype : goal.returns-in-Prototype
returns-in-Prototype c = record {
  sure = λ d a.
      rw (c.in-Prototype.is, c.performs.ensures)
      (sure-passed c.args.home d m.GetPrototypeOf c.args.object (a.holds.0.within, tt));
  leaves = λ d a.
      rw c.performs.ensures
      (leaves-passed c.args.home d m.GetPrototypeOf c.args.object AValue a.holds refl);
}
