-- What the laws say.
use Rattle.std.proofs.Common.{◌≡◌, ℕ, zero, suc, ◌+◌, ◌<◌, ◌≤◌, Bool, true, false, cond, ◌&&◌, List, [], ◌∷◌, ◌++◌, length, take, nat_le, nat_eq, Some, refl, sym, ap, subst, ◌∙◌, arith, inl, inr, ⊎_elim, ◌⊎◌}
use Rattle.std.specs.Prelude.{find}
use Rattle.std.specs.List.{starts_with, list_all}
use Rattle.std.specs.Str.{IsUtf8, IsValidUpTo, is_utf8, chars}
use Rattle.std.specs.Char.{len_utf8}
use Rattle.std.proofs.lemmas.List.{take_all}
use Rattle.std.proofs.lemmas.Str.{IsUtf8-nil, IsUtf8-from_is_utf8, is_utf8-from_IsUtf8, len_utf8_bounds}
use Rattle.std.proofs.lemmas.Bool.{true≢false, cases_Bool, and_parts, leb-true, cases_eq, both_ways}
use Rattle.mb_token.specs.declared.mark.Mark.{Mark}
use Rattle.mb_token.specs.declared.mark.Mark.TheVariants.{TripleEqual, NotDoubleEqual, Arrow, LessEqual, GreaterEqual, AndAnd, OrOr, PlusPlus, MinusMinus, PlusEqual, MinusEqual, TimesEqual, OpenBrace, CloseBrace, OpenParen, CloseParen, OpenBracket, CloseBracket, Dot, Semicolon, Comma, Less, Greater, Plus, Minus, Times, Slash, Percent, Not, Question, Colon, Equal}
use Rattle.mb_token.specs.Marks.{mark_text, mark_at, marks}
use Rattle.mb_lexer.specs.declared.fault.LexFault.{LexFault}
use Rattle.mb_lexer.specs.declared.fault.LexFault.TheVariants.{Utf8, Token, Number, NoMemory}
use Rattle.mb_lexer.specs.Characters.{width}
use Rattle.mb_lexer.specs.Tokens.{Content, IsToken}
use Rattle.mb_lexer.specs.Reading.{Lexeme, other, number, Stop, end, fault, Reads, HasTokens}
use Rattle.mb_lexer.specs.machine.Machine.{Answer, idle, run, lexeme, after_tokens}
use Rattle.mb_lexer.specs.Reading.{HasFault}
use Rattle.mb_lexer.proofs.Complete.{token_run}
use Rattle.mb_lexer.proofs.Sound.{sound}
use Rattle.mb_lexer.proofs.Exact.{one_reading}
use Rattle.mb_lexer.proofs.Deciding.{of, not_both, one_place}

pub one_list : (bytes : List ℕ) (ts us : List Lexeme) → HasTokens bytes ts → HasTokens bytes us → ts ≡ us
one_list bytes ts us g h = (one_reading (chars bytes) ts us end end g.1 h.1).0

pub one_first_fault : (bytes : List ℕ) (e f : LexFault) → HasFault bytes e → HasFault bytes f → e ≡ f
one_first_fault bytes (Utf8 a) (Utf8 b) g h = ap Utf8 (one_place bytes a b g h)
one_first_fault bytes (Utf8 a) (Token b) g h = absurd (not_both bytes a h.0 g)
one_first_fault bytes (Utf8 a) (Number b) g h = absurd (not_both bytes a h.0 g)
one_first_fault bytes (Token a) (Utf8 b) g h = absurd (not_both bytes b g.0 h)
one_first_fault bytes (Number a) (Utf8 b) g h = absurd (not_both bytes b g.0 h)
one_first_fault bytes (Token a) (Token b) g h = let e : fault other a ≡ fault other b = (one_reading (chars bytes) g.1 h.1 _ _ g.2 h.2).1 in cc
one_first_fault bytes (Token a) (Number b) g h = let e : fault other a ≡ fault number b = (one_reading (chars bytes) g.1 h.1 _ _ g.2 h.2).1 in absurd cc
one_first_fault bytes (Number a) (Token b) g h = let e : fault number a ≡ fault other b = (one_reading (chars bytes) g.1 h.1 _ _ g.2 h.2).1 in absurd cc
one_first_fault bytes (Number a) (Number b) g h = let e : fault number a ≡ fault number b = (one_reading (chars bytes) g.1 h.1 _ _ g.2 h.2).1 in cc
one_first_fault bytes NoMemory f g h = absurd g
one_first_fault bytes (Utf8 a) NoMemory g h = absurd h
one_first_fault bytes (Token a) NoMemory g h = absurd h
one_first_fault bytes (Number a) NoMemory g h = absurd h

pub not_tokens_and_fault : (bytes : List ℕ) (ts : List Lexeme) (f : LexFault) → HasTokens bytes ts → HasFault bytes f → ⊥
not_tokens_and_fault bytes ts (Utf8 at) g h = not_both bytes at g.0 h
not_tokens_and_fault bytes ts (Token at) g h = let e : end ≡ fault other at = (one_reading (chars bytes) ts h.1 _ _ g.1 h.2).1 in absurd cc
not_tokens_and_fault bytes ts (Number at) g h = let e : end ≡ fault number at = (one_reading (chars bytes) ts h.1 _ _ g.1 h.2).1 in absurd cc
not_tokens_and_fault bytes ts NoMemory g h = h

-- the longest front that is UTF-8, of at most n bytes, where none between n and the whole is
longest_front : (bytes : List ℕ) (n : ℕ) → n < length bytes → ((m : ℕ) → n < m → IsUtf8 (take m bytes) → ⊥) → (at : ℕ) × IsValidUpTo bytes at
longest_front bytes n l f = ⊎_elim (λ (y : is_utf8 (take n bytes) ≡ true). (n, record { short = l; front = IsUtf8-from_is_utf8 _ y; longest = f })) (λ (z : is_utf8 (take n bytes) ≡ false). down n l f z) (cases_Bool (is_utf8 (take n bytes)))
  where
    down : (n : ℕ) → n < length bytes → ((m : ℕ) → n < m → IsUtf8 (take m bytes) → ⊥) → is_utf8 (take n bytes) ≡ false → (at : ℕ) × IsValidUpTo bytes at
    down zero l f z = absurd (true≢false (sym (is_utf8-from_IsUtf8 [] IsUtf8-nil) ∙ z))
    down (suc n) l f z =
        let less : n < length bytes = omega arith in
        let none : (m : ℕ) → n < m → IsUtf8 (take m bytes) → ⊥ = λ m h u. ⊎_elim (λ (e : m ≡ suc n). true≢false (sym (is_utf8-from_IsUtf8 (take (suc n) bytes) (subst (λ k. IsUtf8 (take k bytes)) e u)) ∙ z)) (λ (d : m ≡ suc n → ⊥). f m (omega (arith, d)) u) (cases_eq m (suc n)) in
        ⊎_elim (λ (y : is_utf8 (take n bytes) ≡ true). (n, record { short = less; front = IsUtf8-from_is_utf8 _ y; longest = none })) (λ (w : is_utf8 (take n bytes) ≡ false). down n less none w) (cases_Bool (is_utf8 (take n bytes)))

text_or_fault : (bytes : List ℕ) → IsUtf8 bytes ⊎ ((at : ℕ) × IsValidUpTo bytes at)
text_or_fault bytes = ⊎_elim (λ (y : is_utf8 bytes ≡ true). inl (IsUtf8-from_is_utf8 bytes y)) (λ (z : is_utf8 bytes ≡ false). inr (broken bytes z)) (cases_Bool (is_utf8 bytes))
  where
    broken : (bytes : List ℕ) → is_utf8 bytes ≡ false → (at : ℕ) × IsValidUpTo bytes at
    broken [] z = absurd (true≢false (sym (is_utf8-from_IsUtf8 [] IsUtf8-nil) ∙ z))
    broken (b ∷ bs) z = longest_front (b ∷ bs) (length bs) (omega arith) (λ m h u. true≢false (sym (is_utf8-from_IsUtf8 (b ∷ bs) (subst IsUtf8 (take_all m (b ∷ bs) (omega arith)) u)) ∙ z))

pub tokens_or_fault : (bytes : List ℕ) → ((ts : List Lexeme) × HasTokens bytes ts) ⊎ ((f : LexFault) × HasFault bytes f)
tokens_or_fault bytes = ⊎_elim (λ (u : IsUtf8 bytes). told u (of bytes).tokens (of bytes).stop ((sound (chars bytes)).between 0 false)) (λ (v : (at : ℕ) × IsValidUpTo bytes at). inr (Utf8 v.0, v.1)) (text_or_fault bytes)
  where
    told : IsUtf8 bytes → (ts : List Lexeme) (stop : Stop) → Reads 0 false (chars bytes) ts stop → ((ts : List Lexeme) × HasTokens bytes ts) ⊎ ((f : LexFault) × HasFault bytes f)
    told u ts end g = inl (ts, (u, g))
    told u ts (fault other at) g = inr (Token at, (u, ts, g))
    told u ts (fault number at) g = inr (Number at, (u, ts, g))

-- fronts of one text that are equally wide are equal
same_front : (cs ds xs ys : List ℕ) → cs ++ xs ≡ ds ++ ys → width cs ≡ width ds → cs ≡ ds
same_front [] [] xs ys e w = refl
same_front [] (d ∷ ds) xs ys e w = let b : (1 ≤ len_utf8 d) × (len_utf8 d ≤ 4) = len_utf8_bounds d in absurd (omega arith)
same_front (c ∷ cs) [] xs ys e w = let b : (1 ≤ len_utf8 c) × (len_utf8 c ≤ 4) = len_utf8_bounds c in absurd (omega arith)
same_front (c ∷ cs) (d ∷ ds) xs ys e w =
    let h : c ≡ d = cc in
    let t : cs ++ xs ≡ ds ++ ys = cc in
    let l : len_utf8 c ≡ len_utf8 d = ap len_utf8 h in
    let r : cs ≡ ds = same_front cs ds xs ys t (omega arith) in
    λ i. h i ∷ r i

pub one_token : (s t : Content) (cs ds xs ys : List ℕ) → cs ++ xs ≡ ds ++ ys → IsToken s cs xs → IsToken t ds ys → (s ≡ t) × (cs ≡ ds)
one_token s t cs ds xs ys e g h =
    let a : Answer = run (idle (0 + width cs) false) xs in
    let b : Answer = run (idle (0 + width ds) false) ys in
    let r : after_tokens (lexeme s 0 (0 + width cs) false ∷ []) a ≡ after_tokens (lexeme t 0 (0 + width ds) false ∷ []) b = sym (token_run s cs xs 0 false g) ∙ ap (λ zs. run (idle 0 false) zs) e ∙ token_run t ds ys 0 false h in
    let l : lexeme s 0 (0 + width cs) false ∷ a.tokens ≡ lexeme t 0 (0 + width ds) false ∷ b.tokens = ap (λ z. z.tokens) r in
    let f : lexeme s 0 (0 + width cs) false ≡ lexeme t 0 (0 + width ds) false = cc in
    let w : 0 + width cs ≡ 0 + width ds = ap (λ z. z.to) f in
    (ap (λ z. z.content) f, same_front cs ds xs ys e (omega arith))

-- each mark is no shorter than those after it
abbrev falls : List Mark → Bool
falls [] = true
falls (k ∷ ks) = list_all (λ m. nat_le (length (mark_text m)) (length (mark_text k))) ks && falls ks

abbrev In : Mark → List Mark → Type 0
In m [] = ⊥
In m (k ∷ ks) = (m ≡ k) ⊎ In m ks

all_in : (p : Mark → Bool) (m : Mark) (ks : List Mark) → list_all p ks ≡ true → In m ks → p m ≡ true
all_in p m [] h i = absurd i
all_in p m (k ∷ ks) h i = let r : (p k ≡ true) × (list_all p ks ≡ true) = and_parts _ _ h in ⊎_elim (λ (e : m ≡ k). ap p e ∙ r.0) (λ (j : In m ks). all_in p m ks r.1 j) i

longest_first : (p : Mark → Bool) (k m : Mark) (ks : List Mark) → falls ks ≡ true → In m ks → p m ≡ true → find p ks ≡ Some k → length (mark_text m) ≤ length (mark_text k)
longest_first p k m [] f i h e = absurd i
longest_first p k m (x ∷ xs) f i h e = by (p x) refl (λ g j. longest_first p k m xs (and_parts (list_all (λ y. nat_le (length (mark_text y)) (length (mark_text x))) xs) (falls xs) f).1 j h g) e
  where
    r : (list_all (λ y. nat_le (length (mark_text y)) (length (mark_text x))) xs ≡ true) × (falls xs ≡ true)
    r = and_parts _ _ f

    by : (b : Bool) → p x ≡ b → (find p xs ≡ Some k → In m xs → length (mark_text m) ≤ length (mark_text k)) → cond b (Some x) (find p xs) ≡ Some k → length (mark_text m) ≤ length (mark_text k)
    by true y rest e =
        let same : x ≡ k = cc in
        subst (λ z. length (mark_text m) ≤ length (mark_text z)) same (⊎_elim (λ (g : m ≡ x). (let l : length (mark_text m) ≡ length (mark_text x) = ap (λ z. length (mark_text z)) g in let o : length (mark_text m) ≤ length (mark_text x) = omega arith in o)) (λ (j : In m xs). leb-true _ _ (all_in (λ y. nat_le (length (mark_text y)) (length (mark_text x))) m xs r.0 j)) i)
    by false y rest e = ⊎_elim (λ (g : m ≡ x). absurd (both_ways (p x) y (ap p (sym g) ∙ h))) (λ (j : In m xs). rest e j) i

is_mark : (m : Mark) → In m marks
is_mark TripleEqual = inl refl
is_mark NotDoubleEqual = (inr (inl refl))
is_mark Arrow = (inr (inr (inl refl)))
is_mark LessEqual = (inr (inr (inr (inl refl))))
is_mark GreaterEqual = (inr (inr (inr (inr (inl refl)))))
is_mark AndAnd = (inr (inr (inr (inr (inr (inl refl))))))
is_mark OrOr = (inr (inr (inr (inr (inr (inr (inl refl)))))))
is_mark PlusPlus = (inr (inr (inr (inr (inr (inr (inr (inl refl))))))))
is_mark MinusMinus = (inr (inr (inr (inr (inr (inr (inr (inr (inl refl)))))))))
is_mark PlusEqual = (inr (inr (inr (inr (inr (inr (inr (inr (inr (inl refl))))))))))
is_mark MinusEqual = (inr (inr (inr (inr (inr (inr (inr (inr (inr (inr (inl refl)))))))))))
is_mark TimesEqual = (inr (inr (inr (inr (inr (inr (inr (inr (inr (inr (inr (inl refl))))))))))))
is_mark OpenBrace = (inr (inr (inr (inr (inr (inr (inr (inr (inr (inr (inr (inr (inl refl)))))))))))))
is_mark CloseBrace = (inr (inr (inr (inr (inr (inr (inr (inr (inr (inr (inr (inr (inr (inl refl))))))))))))))
is_mark OpenParen = (inr (inr (inr (inr (inr (inr (inr (inr (inr (inr (inr (inr (inr (inr (inl refl)))))))))))))))
is_mark CloseParen = (inr (inr (inr (inr (inr (inr (inr (inr (inr (inr (inr (inr (inr (inr (inr (inl refl))))))))))))))))
is_mark OpenBracket = (inr (inr (inr (inr (inr (inr (inr (inr (inr (inr (inr (inr (inr (inr (inr (inr (inl refl)))))))))))))))))
is_mark CloseBracket = (inr (inr (inr (inr (inr (inr (inr (inr (inr (inr (inr (inr (inr (inr (inr (inr (inr (inl refl))))))))))))))))))
is_mark Dot = (inr (inr (inr (inr (inr (inr (inr (inr (inr (inr (inr (inr (inr (inr (inr (inr (inr (inr (inl refl)))))))))))))))))))
is_mark Semicolon = (inr (inr (inr (inr (inr (inr (inr (inr (inr (inr (inr (inr (inr (inr (inr (inr (inr (inr (inr (inl refl))))))))))))))))))))
is_mark Comma = (inr (inr (inr (inr (inr (inr (inr (inr (inr (inr (inr (inr (inr (inr (inr (inr (inr (inr (inr (inr (inl refl)))))))))))))))))))))
is_mark Less = (inr (inr (inr (inr (inr (inr (inr (inr (inr (inr (inr (inr (inr (inr (inr (inr (inr (inr (inr (inr (inr (inl refl))))))))))))))))))))))
is_mark Greater = (inr (inr (inr (inr (inr (inr (inr (inr (inr (inr (inr (inr (inr (inr (inr (inr (inr (inr (inr (inr (inr (inr (inl refl)))))))))))))))))))))))
is_mark Plus = (inr (inr (inr (inr (inr (inr (inr (inr (inr (inr (inr (inr (inr (inr (inr (inr (inr (inr (inr (inr (inr (inr (inr (inl refl))))))))))))))))))))))))
is_mark Minus = (inr (inr (inr (inr (inr (inr (inr (inr (inr (inr (inr (inr (inr (inr (inr (inr (inr (inr (inr (inr (inr (inr (inr (inr (inl refl)))))))))))))))))))))))))
is_mark Times = (inr (inr (inr (inr (inr (inr (inr (inr (inr (inr (inr (inr (inr (inr (inr (inr (inr (inr (inr (inr (inr (inr (inr (inr (inr (inl refl))))))))))))))))))))))))))
is_mark Slash = (inr (inr (inr (inr (inr (inr (inr (inr (inr (inr (inr (inr (inr (inr (inr (inr (inr (inr (inr (inr (inr (inr (inr (inr (inr (inr (inl refl)))))))))))))))))))))))))))
is_mark Percent = (inr (inr (inr (inr (inr (inr (inr (inr (inr (inr (inr (inr (inr (inr (inr (inr (inr (inr (inr (inr (inr (inr (inr (inr (inr (inr (inr (inl refl))))))))))))))))))))))))))))
is_mark Not = (inr (inr (inr (inr (inr (inr (inr (inr (inr (inr (inr (inr (inr (inr (inr (inr (inr (inr (inr (inr (inr (inr (inr (inr (inr (inr (inr (inr (inl refl)))))))))))))))))))))))))))))
is_mark Question = (inr (inr (inr (inr (inr (inr (inr (inr (inr (inr (inr (inr (inr (inr (inr (inr (inr (inr (inr (inr (inr (inr (inr (inr (inr (inr (inr (inr (inr (inl refl))))))))))))))))))))))))))))))
is_mark Colon = (inr (inr (inr (inr (inr (inr (inr (inr (inr (inr (inr (inr (inr (inr (inr (inr (inr (inr (inr (inr (inr (inr (inr (inr (inr (inr (inr (inr (inr (inr (inl refl)))))))))))))))))))))))))))))))
is_mark Equal = (inr (inr (inr (inr (inr (inr (inr (inr (inr (inr (inr (inr (inr (inr (inr (inr (inr (inr (inr (inr (inr (inr (inr (inr (inr (inr (inr (inr (inr (inr (inr (inl refl))))))))))))))))))))))))))))))))

in_front : (m : Mark) (rest : List ℕ) → starts_with nat_eq (mark_text m ++ rest) (mark_text m) ≡ true
in_front TripleEqual rest = refl
in_front NotDoubleEqual rest = refl
in_front Arrow rest = refl
in_front LessEqual rest = refl
in_front GreaterEqual rest = refl
in_front AndAnd rest = refl
in_front OrOr rest = refl
in_front PlusPlus rest = refl
in_front MinusMinus rest = refl
in_front PlusEqual rest = refl
in_front MinusEqual rest = refl
in_front TimesEqual rest = refl
in_front OpenBrace rest = refl
in_front CloseBrace rest = refl
in_front OpenParen rest = refl
in_front CloseParen rest = refl
in_front OpenBracket rest = refl
in_front CloseBracket rest = refl
in_front Dot rest = refl
in_front Semicolon rest = refl
in_front Comma rest = refl
in_front Less rest = refl
in_front Greater rest = refl
in_front Plus rest = refl
in_front Minus rest = refl
in_front Times rest = refl
in_front Slash rest = refl
in_front Percent rest = refl
in_front Not rest = refl
in_front Question rest = refl
in_front Colon rest = refl
in_front Equal rest = refl

pub longest_mark : (k m : Mark) (cs rest : List ℕ) → mark_at cs ≡ Some k → cs ≡ mark_text m ++ rest → length (mark_text m) ≤ length (mark_text k)
longest_mark k m cs rest h e = longest_first (λ j. starts_with nat_eq cs (mark_text j)) k m marks refl (is_mark m) (ap (λ xs. starts_with nat_eq xs (mark_text m)) e ∙ in_front m rest) h
