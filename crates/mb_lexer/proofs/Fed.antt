-- What a lexer stands for, step by step.
use Rattle.std.proofs.Common.{◌≡◌, ℕ, ◌+◌, ◌-◌, ◌≤◌, ◌<◌, true, false, List, [], ◌++◌, length, Option, Some, None, refl, sym, ap, subst, ◌∙◌, append_assoc, arith, length-append}
use Rattle.std.proofs.lemmas.List.{append-nil}
use Rattle.std.specs.Option.{is_some}
use Rattle.std.specs.Str.{IsUtf8, IsValidUpTo, StartsWithNoChar, chars}
use Rattle.std.proofs.lemmas.Str.{chars-nil, chars-append, IsUtf8-nil, IsUtf8-append}
use Rattle.mb_text.specs.Texts.{KeepsIds}
use Rattle.mb_token.specs.declared.token.Spanned.{Spanned}
use Rattle.mb_lexer.specs.declared.fault.LexFault.{LexFault}
use Rattle.mb_lexer.specs.declared.fault.LexFault.TheVariants.{Utf8, Token, Number, NoMemory}
use Rattle.mb_lexer.specs.Reading.{Lexeme, Kind, other, number, fault, Reads}
use Rattle.mb_lexer.specs.Feeding.{Lexing, Fed, Keeps, IsCut, GoesOn, Faults}
use Rattle.mb_lexer.specs.machine.Machine.{Machine, idle, after_tokens, run}
use Rattle.mb_lexer.specs.machine.Outcomes.{Passes, StopsAt, is_broken}
use Rattle.mb_lexer.proofs.Seen.{seen_kept}
use Rattle.mb_lexer.proofs.Sound.{sound}
use Rattle.mb_lexer.proofs.Driving.{after_append}
use Rattle.mb_lexer.proofs.Cuts.{none_nil, valid_front, still_broken}

-- texts may be added
keeps_grown : (f : Option LexFault) (l : Lexing) (old new : List (List ℕ)) (bytes : List ℕ) → KeepsIds old new → Keeps f l old bytes → Keeps f l new bytes
keeps_grown None l old new bytes k h = (h.0, h.1, ((h.2).0, seen_kept old new l.tokens (h.2).0 k (h.2).1, (h.2).2))
keeps_grown (Some (Token at)) l old new bytes k h = h
keeps_grown (Some (Number at)) l old new bytes k h = h
keeps_grown (Some (Utf8 at)) l old new bytes k h = h
keeps_grown (Some NoMemory) l old new bytes k h = h

pub fed_grown : (l : Lexing) (old new : List (List ℕ)) (bytes : List ℕ) → KeepsIds old new → Fed l old bytes → Fed l new bytes
fed_grown l old new bytes k h = record { count = h.count; kept = keeps_grown l.fault l old new bytes k h.kept }

-- nothing was fed
pub fed_nothing : (l : Lexing) (texts : List (List ℕ)) → l ≡ record { tokens = []; current = idle 0 false; fault = None; pending = []; fed = 0 } → Fed l texts []
fed_nothing l texts e = subst (λ k. Fed k texts []) (sym e) (record {
  count = refl;
  kept = ([], record { whole = refl; text = IsUtf8-nil; none = none_nil }, ([], tt, λ more. ap (λ cs. run (idle 0 false) (cs ++ more)) chars-nil));
})

-- before pending bytes stand whole characters
pub whole_before : (bytes front pending : List ℕ) → IsCut bytes front pending → pending ≡ [] → bytes ≡ front
whole_before bytes front pending h e = h.whole ∙ ap (λ p. front ++ p) e ∙ append-nil front

cut_text : (bytes front pending now text : List ℕ) → IsCut bytes front pending → pending ≡ [] → now ≡ [] → IsUtf8 text → IsCut (bytes ++ text) (front ++ text) now
cut_text bytes front pending now text h e f u = record {
  whole = ap (λ xs. xs ++ text) (whole_before bytes front pending h e) ∙ sym (append-nil (front ++ text)) ∙ ap (λ p. (front ++ text) ++ p) (sym f);
  text = IsUtf8-append front text h.text u;
  none = subst StartsWithNoChar (sym f) none_nil;
}

-- the characters of a text, and then more
chars_more : (front text more : List ℕ) → IsUtf8 front → chars (front ++ text) ++ more ≡ chars front ++ (chars text ++ more)
chars_more front text more u = ap (λ cs. cs ++ more) (chars-append front text u) ∙ append_assoc (chars front) (chars text) more

faults_more : (kind : Kind) (at : ℕ) (front text : List ℕ) → IsUtf8 front → Faults kind at (chars front) → Faults kind at (chars (front ++ text))
faults_more kind at front text u h more = subst (λ cs. (ts : List Lexeme) × Reads 0 false cs ts (fault kind at)) (sym (chars_more front text more u)) (h (chars text ++ more))

counted : (n : ℕ) (bytes more : List ℕ) → n ≡ length bytes → n + length more ≡ length (bytes ++ more)
counted n bytes more e = ap (λ k. k + length more) e ∙ sym (length-append bytes more)

-- text after a fault
keeps_text : (f : Option LexFault) (l m : Lexing) (texts : List (List ℕ)) (before text : List ℕ) → (f ≡ None → ⊥) → l.pending ≡ [] → m.pending ≡ [] → IsUtf8 text → Keeps f l texts before → Keeps f m texts (before ++ text)
keeps_text None l m texts before text n e g u h = absurd (n refl)
keeps_text (Some (Token at)) l m texts before text n e g u h = (h.0 ++ text, cut_text before h.0 l.pending m.pending text h.1 e g u, faults_more other at h.0 text (h.1).text h.2)
keeps_text (Some (Number at)) l m texts before text n e g u h = (h.0 ++ text, cut_text before h.0 l.pending m.pending text h.1 e g u, faults_more number at h.0 text (h.1).text h.2)
keeps_text (Some (Utf8 at)) l m texts before text n e g u h = (still_broken before text at h.0 h.1, omega (arith, h.1, length-append before text), g)
keeps_text (Some NoMemory) l m texts before text n e g u h = absurd h

pub fed_after_fault : (l : Lexing) (texts : List (List ℕ)) (before text : List ℕ) → (l.fault ≡ None → ⊥) → l.pending ≡ [] → IsUtf8 text → Fed l texts before → Fed (record l { fed = l.fed + length text }) texts (before ++ text)
fed_after_fault l texts before text n e u h = record {
  count = counted l.fed before text h.count;
  kept = keeps_text l.fault l (record l { fed = l.fed + length text }) texts before text n e e u h.kept;
}

-- text that the open token goes on over
keeps_pass : (l : Lexing) (texts newer : List (List ℕ)) (before text : List ℕ) (tokens : List Spanned) (m : Machine) (fed : ℕ) → l.pending ≡ [] → IsUtf8 text → Passes texts l.tokens l.current (chars text) newer tokens m → Keeps None l texts before
    → Keeps None (record { tokens = tokens; current = m; fault = l.fault; pending = l.pending; fed = fed }) newer (before ++ text)
keeps_pass l texts newer before text tokens m fed e u p h = (
  h.0 ++ text,
  cut_text before h.0 l.pending l.pending text h.1 e e u,
  (
    (h.2).0 ++ p.0,
    p.1 (h.2).0 (h.2).1,
    λ more.
        ap (λ cs. run (idle 0 false) cs) (chars_more h.0 text more (h.1).text)
        ∙ (h.2).2 (chars text ++ more)
        ∙ ap (λ a. after_tokens (h.2).0 a) (p.2 more)
        ∙ after_append (h.2).0 p.0 (run m more),
  ),
)

pub fed_pass : (l : Lexing) (texts newer : List (List ℕ)) (before text : List ℕ) (tokens : List Spanned) (m : Machine) → l.fault ≡ None → l.pending ≡ [] → IsUtf8 text → Passes texts l.tokens l.current (chars text) newer tokens m → Fed l texts before
    → Fed (record { tokens = tokens; current = m; fault = l.fault; pending = l.pending; fed = l.fed + length text }) newer (before ++ text)
fed_pass l texts newer before text tokens m n e u p h = record {
  count = counted l.fed before text h.count;
  kept = subst (λ f. Keeps f (record { tokens = tokens; current = m; fault = l.fault; pending = l.pending; fed = l.fed + length text }) newer (before ++ text)) (sym n)
      (keeps_pass l texts newer before text tokens m (l.fed + length text) e u p (subst (λ f. Keeps f l texts before) n h.kept));
}

-- text with the first fault
faults_here : (kind : Kind) (at : ℕ) (front text : List ℕ) (ts : List Lexeme) (m : Machine) → IsUtf8 front → GoesOn (idle 0 false) (chars front) ts m → ((more : List ℕ) → (run m (chars text ++ more)).stop ≡ fault kind at) → Faults kind at (chars (front ++ text))
faults_here kind at front text ts m u g s more =
    let cs : List ℕ = chars (front ++ text) ++ more in
    let e : (run (idle 0 false) cs).stop ≡ fault kind at = ap (λ xs. (run (idle 0 false) xs).stop) (chars_more front text more u) ∙ ap (λ a. a.stop) (g (chars text ++ more)) ∙ s more in
    ((run (idle 0 false) cs).tokens, subst (λ k. Reads 0 false cs (run (idle 0 false) cs).tokens k) e ((sound cs).between 0 false))

keeps_stop : (e : LexFault) (l m : Lexing) (texts newer : List (List ℕ)) (before text : List ℕ) → (e ≡ NoMemory → ⊥) → l.pending ≡ [] → m.pending ≡ [] → IsUtf8 text → StopsAt e l.current (chars text) → Keeps None l texts before → Keeps (Some e) m newer (before ++ text)
keeps_stop (Utf8 at) l m texts newer before text n e g u s h = absurd (s [])
keeps_stop (Token at) l m texts newer before text n e g u s h = (h.0 ++ text, cut_text before h.0 l.pending m.pending text h.1 e g u, faults_here other at h.0 text (h.2).0 l.current (h.1).text (h.2).2 s)
keeps_stop (Number at) l m texts newer before text n e g u s h = (h.0 ++ text, cut_text before h.0 l.pending m.pending text h.1 e g u, faults_here number at h.0 text (h.2).0 l.current (h.1).text (h.2).2 s)
keeps_stop NoMemory l m texts newer before text n e g u s h = absurd (n refl)

pub fed_stop : (e : LexFault) (l : Lexing) (texts newer : List (List ℕ)) (before text : List ℕ) (tokens : List Spanned) (m : Machine) → (e ≡ NoMemory → ⊥) → l.fault ≡ None → l.pending ≡ [] → IsUtf8 text → StopsAt e l.current (chars text) → Fed l texts before
    → Fed (record { tokens = tokens; current = m; fault = Some e; pending = l.pending; fed = l.fed + length text }) newer (before ++ text)
fed_stop e l texts newer before text tokens m k n p u s h = record {
  count = counted l.fed before text h.count;
  kept = keeps_stop e l (record { tokens = tokens; current = m; fault = Some e; pending = l.pending; fed = l.fed + length text }) texts newer before text k p p u s (subst (λ f. Keeps f l texts before) n h.kept);
}

-- a fault of the machine is none of UTF-8
pub unbroken_stop : (e : LexFault) (m : Machine) (cs : List ℕ) → StopsAt e m cs → is_broken (Some e) ≡ false
unbroken_stop (Utf8 at) m cs s = absurd (s [])
unbroken_stop (Token at) m cs s = refl
unbroken_stop (Number at) m cs s = refl
unbroken_stop NoMemory m cs s = refl

-- once broken, broken
keeps_broken : (f : Option LexFault) (l m : Lexing) (texts : List (List ℕ)) (before bytes : List ℕ) → is_broken f ≡ true → m.pending ≡ l.pending → Keeps f l texts before → Keeps f m texts (before ++ bytes)
keeps_broken None l m texts before bytes b e h = absurd cc
keeps_broken (Some (Token at)) l m texts before bytes b e h = absurd cc
keeps_broken (Some (Number at)) l m texts before bytes b e h = absurd cc
keeps_broken (Some (Utf8 at)) l m texts before bytes b e h = (still_broken before bytes at h.0 h.1, omega (arith, h.1, length-append before bytes), e ∙ h.2)
keeps_broken (Some NoMemory) l m texts before bytes b e h = absurd cc

pub fed_broken : (l : Lexing) (texts : List (List ℕ)) (before bytes : List ℕ) → is_broken l.fault ≡ true → Fed l texts before → Fed (record l { fed = l.fed + length bytes }) texts (before ++ bytes)
fed_broken l texts before bytes b h = record {
  count = counted l.fed before bytes h.count;
  kept = keeps_broken l.fault l (record l { fed = l.fed + length bytes }) texts before bytes b refl h.kept;
}

-- what came is UTF-8
utf8_before : (f : Option LexFault) (l : Lexing) (texts : List (List ℕ)) (before : List ℕ) → is_broken f ≡ false → l.pending ≡ [] → Keeps f l texts before → IsUtf8 before
utf8_before None l texts before b e h = subst IsUtf8 (sym (whole_before before h.0 l.pending h.1 e)) (h.1).text
utf8_before (Some (Token at)) l texts before b e h = subst IsUtf8 (sym (whole_before before h.0 l.pending h.1 e)) (h.1).text
utf8_before (Some (Number at)) l texts before b e h = subst IsUtf8 (sym (whole_before before h.0 l.pending h.1 e)) (h.1).text
utf8_before (Some (Utf8 at)) l texts before b e h = absurd cc
utf8_before (Some NoMemory) l texts before b e h = absurd h

-- four bytes that begin no character
pub fed_breaks : (l : Lexing) (texts : List (List ℕ)) (before text rest bytes : List ℕ) → is_broken l.fault ≡ false → l.pending ≡ [] → IsUtf8 text → StartsWithNoChar rest → 3 < length rest → bytes ≡ text ++ rest → Fed l texts before
    → Fed (record l { fault = Some (Utf8 (l.fed + length text)); fed = l.fed + length bytes }) texts (before ++ bytes)
fed_breaks l texts before text rest bytes b e u n four w h =
    let at : l.fed + length text ≡ length (before ++ text) = counted l.fed before text h.count in
    let whole : (before ++ text) ++ rest ≡ before ++ bytes = append_assoc before text rest ∙ ap (λ xs. before ++ xs) (sym w) in
    let v : IsValidUpTo ((before ++ text) ++ rest) (length (before ++ text)) =
    valid_front (before ++ text) rest (omega (arith, four)) (IsUtf8-append before text (utf8_before l.fault l texts before b e h.kept) u) n in
    let v2 : IsValidUpTo (before ++ bytes) (l.fed + length text) = subst (λ k. IsValidUpTo (before ++ bytes) k) (sym at) (subst (λ xs. IsValidUpTo xs (length (before ++ text))) whole v) in
    let long : (l.fed + length text) + 4 ≤ length (before ++ bytes) = omega (arith, four, at, ap length whole, length-append (before ++ text) rest) in
    record { count = counted l.fed before bytes h.count; kept = (v2, long, e) }

-- the first bytes of a character
cut_hold : (bytes front pending rest : List ℕ) → IsCut bytes front pending → pending ≡ [] → StartsWithNoChar rest → IsCut (bytes ++ rest) front rest
cut_hold bytes front pending rest h e n = record { whole = ap (λ xs. xs ++ rest) (whole_before bytes front pending h e); text = h.text; none = n }

keeps_hold : (f : Option LexFault) (l : Lexing) (texts : List (List ℕ)) (bytes rest : List ℕ) (fed : ℕ) → is_broken f ≡ false → l.pending ≡ [] → StartsWithNoChar rest → Keeps f l texts bytes → Keeps f (record l { pending = rest; fed = fed }) texts (bytes ++ rest)
keeps_hold None l texts bytes rest fed b e n h = (h.0, cut_hold bytes h.0 l.pending rest h.1 e n, h.2)
keeps_hold (Some (Token at)) l texts bytes rest fed b e n h = (h.0, cut_hold bytes h.0 l.pending rest h.1 e n, h.2)
keeps_hold (Some (Number at)) l texts bytes rest fed b e n h = (h.0, cut_hold bytes h.0 l.pending rest h.1 e n, h.2)
keeps_hold (Some (Utf8 at)) l texts bytes rest fed b e n h = absurd cc
keeps_hold (Some NoMemory) l texts bytes rest fed b e n h = absurd h

pub fed_hold : (l m : Lexing) (texts : List (List ℕ)) (before text rest bytes : List ℕ) → m ≡ record l { pending = rest; fed = l.fed + length rest } → is_broken l.fault ≡ false → l.pending ≡ [] → StartsWithNoChar rest → bytes ≡ text ++ rest
    → Fed l texts (before ++ text) → Fed m texts (before ++ bytes)
fed_hold l m texts before text rest bytes g b e n w h =
    let whole : (before ++ text) ++ rest ≡ before ++ bytes = append_assoc before text rest ∙ ap (λ xs. before ++ xs) (sym w) in
    let fed : Fed (record l { pending = rest; fed = l.fed + length rest }) texts ((before ++ text) ++ rest) = record {
      count = counted l.fed (before ++ text) rest h.count;
      kept = keeps_hold l.fault l texts (before ++ text) rest (l.fed + length rest) b e n h.kept;
    } in
    subst (λ k. Fed k texts (before ++ bytes)) (sym g) (subst (λ xs. Fed (record l { pending = rest; fed = l.fed + length rest }) texts xs) whole fed)

-- pending bytes are taken back
abbrev pub Back : Lexing → List (List ℕ) → List ℕ → Type 0
Back l texts bytes = (front : List ℕ) × (bytes ≡ front ++ l.pending) × Fed (record l { pending = []; fed = l.fed - length l.pending }) texts front

cut_back : (bytes front pending : List ℕ) → IsCut bytes front pending → IsCut front front []
cut_back bytes front pending h = record { whole = sym (append-nil front); text = h.text; none = none_nil }

count_back : (fed : ℕ) (bytes front pending : List ℕ) → fed ≡ length bytes → bytes ≡ front ++ pending → fed - length pending ≡ length front
count_back fed bytes front pending e w = omega (arith, e, ap length w, length-append front pending)

keeps_back : (f : Option LexFault) (l : Lexing) (texts : List (List ℕ)) (bytes : List ℕ) → 0 < length l.pending → Keeps f l texts bytes
    → (front : List ℕ) × (bytes ≡ front ++ l.pending) × Keeps f (record l { pending = []; fed = l.fed - length l.pending }) texts front
keeps_back None l texts bytes p h = (h.0, (h.1).whole, (h.0, cut_back bytes h.0 l.pending h.1, h.2))
keeps_back (Some (Token at)) l texts bytes p h = (h.0, (h.1).whole, (h.0, cut_back bytes h.0 l.pending h.1, h.2))
keeps_back (Some (Number at)) l texts bytes p h = (h.0, (h.1).whole, (h.0, cut_back bytes h.0 l.pending h.1, h.2))
keeps_back (Some (Utf8 at)) l texts bytes p h = absurd (omega (arith, p, ap length h.2))
keeps_back (Some NoMemory) l texts bytes p h = absurd h

pub fed_back : (l : Lexing) (texts : List (List ℕ)) (bytes : List ℕ) → 0 < length l.pending → Fed l texts bytes → Back l texts bytes
fed_back l texts bytes p h =
    let k = keeps_back l.fault l texts bytes p h.kept in
    (k.0, k.1, record { count = count_back l.fed bytes k.0 l.pending h.count k.1; kept = k.2 })

-- the pending bytes were cleared, and their number taken off
pub fed_cleared : (l : Lexing) (texts : List (List ℕ)) (front pending : List ℕ) (n : ℕ) → pending ≡ [] → n ≡ length l.pending → Fed (record l { pending = []; fed = l.fed - length l.pending }) texts front → Fed (record l { pending = pending; fed = l.fed - n }) texts front
fed_cleared l texts front pending n e k h =
    subst (λ p. Fed (record l { pending = p; fed = l.fed - n }) texts front) (sym e) (subst (λ j. Fed (record l { pending = []; fed = l.fed - j }) texts front) (sym k) h)

pub is_none : (f : Option LexFault) → is_some f ≡ false → f ≡ None
is_none None e = refl
is_none (Some x) e = absurd cc

pub is_not_none : (f : Option LexFault) → is_some f ≡ true → f ≡ None → ⊥
is_not_none None e h = absurd cc
is_not_none (Some x) e h = absurd cc
