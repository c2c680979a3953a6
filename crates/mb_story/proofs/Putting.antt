-- What a sink took, put by put.
use Rattle.std.proofs.Common.{List, None, Option, Result, Some, [], ap, arith, length, length-append, refl, subst, sym, take, drop, ℕ, ◌+◌, ◌++◌, ◌-◌, ◌∙◌, ◌≡◌, ◌≤◌, append-nil, append_assoc}
use Rattle.std.proofs.lemmas.List.{take-append-drop}
use Rattle.mb_outer.specs.Causes.{FitsIn, Puts}
use Rattle.mb_outer.specs.declared.sink.Put.TheVariants as put
use Rattle.mb_story.specs.Running.{CountsFaults, HasRoom, Receives}
use Rattle.mb_story.specs.declared.ending.RunFault.{RunFault}
use Rattle.mb_story.specs.declared.ending.RunFault.TheVariants.{NoMemory, Write}
use Rattle.mb_story.specs.machine.Telling.{LowersRoom, Sunk, Takes, Took, TookPart}

-- ---- a put

received : (start now new : Option (List ℕ)) (before bytes : List ℕ) → Receives start now before
    → Puts now new bytes put.All → Receives start new (before ++ bytes)
received None now new before bytes h p = tt
received (Some taken) now new before bytes h p =
    let q : new ≡ Some ((taken ++ before) ++ bytes) = subst (λ (o : Option (List ℕ)). Puts o new bytes put.All) h p in
    q ∙ ap Some (append_assoc taken before bytes)

lowered : (start now new : Option ℕ) (before bytes : List ℕ) → LowersRoom start now before
    → FitsIn now new bytes put.All → LowersRoom start new (before ++ bytes)
lowered None now new before bytes h p = tt
lowered (Some room) now new before bytes h p = λ fits.
    let long : length (before ++ bytes) ≡ length before + length bytes = length-append before bytes in
    let q : length bytes ≤ room - length before → (put.All ≡ put.All) × (new ≡ Some (room - length before - length bytes))
    = subst (λ (o : Option ℕ). FitsIn o new bytes put.All) (h (omega (arith, long, fits))) p in
    (q (omega (arith, long, fits))).1 ∙ ap Some (omega (arith, long))

pub took-all : (start now new : Sunk) (before bytes : List ℕ) → Took start now before
    → Puts now.taken new.taken bytes put.All → FitsIn now.room new.room bytes put.All
    → Took start new (before ++ bytes)
took-all start now new before bytes h p q = record {
  bytes = received start.taken now.taken new.taken before bytes h.bytes p;
  room = lowered start.room now.room new.room before bytes h.room q;
}

-- a put that failed
received-part : (start now new : Option (List ℕ)) (before bytes : List ℕ) → Receives start now before
    → Puts now new bytes put.Failed → (n : ℕ) × Receives start new (before ++ take n bytes)
received-part None now new before bytes h p = (0, tt)
received-part (Some taken) now new before bytes h p =
    let q : (n : ℕ) × (new ≡ Some ((taken ++ before) ++ take n bytes))
    = subst (λ (o : Option (List ℕ)). Puts o new bytes put.Failed) h p in
    (q.0, q.1 ∙ ap Some (append_assoc taken before (take q.0 bytes)))

no-room : (start now new : Option ℕ) (before bytes : List ℕ) → LowersRoom start now before
    → FitsIn now new bytes put.Failed → HasRoom start (before ++ bytes) → ⊥
no-room None now new before bytes h p fits = absurd fits
no-room (Some room) now new before bytes h p fits =
    let long : length (before ++ bytes) ≡ length before + length bytes = length-append before bytes in
    let q : length bytes ≤ room - length before → (put.Failed ≡ put.All) × (new ≡ Some (room - length before - length bytes))
    = subst (λ (o : Option ℕ). FitsIn o new bytes put.Failed) (h (omega (arith, long, fits))) p in
    let clash : put.Failed ≡ put.All = (q (omega (arith, long, fits))).0 in
    cc

pub took-part : (start now new : Sunk) (before bytes : List ℕ) → Took start now before
    → Puts now.taken new.taken bytes put.Failed → FitsIn now.room new.room bytes put.Failed
    → TookPart start new Write (before ++ bytes)
took-part start now new before bytes h p q =
    let part = received-part start.taken now.taken new.taken before bytes h.bytes p in
    record {
      front = before ++ take part.0 bytes;
      rest = drop part.0 bytes;
      parts = ap (λ (z : List ℕ). before ++ z) (sym (take-append-drop part.0 bytes))
          ∙ sym (append_assoc before (take part.0 bytes) (drop part.0 bytes));
      bytes = part.1;
      fits = λ fits e. no-room start.room now.room new.room before bytes h.room q fits;
    }

-- want of memory
pub took-none : (start now : Sunk) (text more : List ℕ) → Took start now text
    → TookPart start now NoMemory (text ++ more)
took-none start now text more h = record {
  front = text;
  rest = more;
  parts = refl;
  bytes = h.bytes;
  fits = λ fits e. let clash : NoMemory ≡ Write = e in cc;
}

-- ---- longer texts

shorter-room : (room : Option ℕ) (text more : List ℕ) → HasRoom room (text ++ more) → HasRoom room text
shorter-room None text more h = h
shorter-room (Some room) text more h =
    let long : length (text ++ more) ≡ length text + length more = length-append text more in
    omega (arith, long, h)

-- a prefix of a text is one of a longer text
pub part-more : (start now : Sunk) (fault : RunFault) (text more : List ℕ) → TookPart start now fault text
    → TookPart start now fault (text ++ more)
part-more start now fault text more h = record {
  front = h.front;
  rest = h.rest ++ more;
  parts = ap (λ (z : List ℕ). z ++ more) h.parts ∙ append_assoc h.front h.rest more;
  bytes = h.bytes;
  fits = λ fits e. h.fits (shorter-room start.room text more fits) e;
}

pub part-of : (start now : Sunk) (fault : RunFault) (text whole : List ℕ)
    → ((more : List ℕ) × (whole ≡ text ++ more)) → TookPart start now fault text → TookPart start now fault whole
part-of start now fault text whole w h =
    subst (TookPart start now fault) (sym w.1) (part-more start now fault text w.0 h)

pub takes-same : {T : Type 0} (result : Result T RunFault) (start now : Sunk) (text text' : List ℕ) → text ≡ text'
    → Takes result start now text → Takes result start now text'
takes-same result start now text text' e h = subst (Takes result start now) e h

-- ---- from the start

pub took-nothing : (start : Sunk) → Took start start []
took-nothing start = record { bytes = none-received start.taken; room = none-lowered start.room }
  where
    none-received : (taken : Option (List ℕ)) → Receives taken taken []
    none-received None = tt
    none-received (Some taken) = ap Some (sym (append-nil taken))

    none-lowered : (room : Option ℕ) → LowersRoom room room []
    none-lowered None = tt
    none-lowered (Some room) = λ fits. ap Some (omega arith)

-- ---- faults

pub counts-then : {T : Type 0} (result : Result T RunFault) (before now new : ℕ) → now ≡ before
    → CountsFaults result now new → CountsFaults result before new
counts-then result before now new e h = subst (λ (n : ℕ). CountsFaults result n new) e h
