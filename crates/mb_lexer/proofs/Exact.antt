-- The machine's answer is the one that the definition gives.
use Rattle.std.proofs.Common.{◌≡◌, ℕ, ◌+◌, Bool, true, false, ◌||◌, List, [], ◌∷◌, ◌++◌, sym, ap, ◌∙◌, append_assoc, add-zero}
use Rattle.std.specs.List.{flat_map, list_any}
use Rattle.std.specs.Prelude.{if◌then◌else◌}
use Rattle.std.specs.Char.{is_digit}
use Rattle.std.proofs.lemmas.Bool.{and_parts}
use Rattle.mb_lexer.specs.Characters.{width}
use Rattle.mb_lexer.specs.Parts.{Part, part_text, is_part, are_parts, has_line}
use Rattle.mb_lexer.specs.Tokens.{IsToken}
use Rattle.mb_lexer.specs.Reading.{Lexeme, Kind, other, number, Stop, end, fault, Parted, Reads, IsFaulty}
use Rattle.mb_lexer.specs.machine.Machine.{Answer, idle, lexeme, after_tokens, run}
use Rattle.mb_lexer.proofs.Parting.{parts_run}
use Rattle.mb_lexer.proofs.Complete.{token_run}
use Rattle.mb_lexer.proofs.Sound.{sound}

abbrev pub answer : List Lexeme → Stop → Answer
answer ts stop = record { tokens = ts; stop = stop }

-- a part stands in front
front_part : (kind : Kind) (cs : List ℕ) (p : Part) (ps : List Part) (rest : List ℕ) → IsFaulty kind cs → Parted cs (p ∷ ps) rest → ⊥
front_part kind cs p ps rest f g =
    let h : (is_part p (flat_map part_text ps ++ rest) ≡ true) × (are_parts ps rest ≡ true) = and_parts _ _ g.each in
    f.no_part p (flat_map part_text ps ++ rest) (g.whole ∙ append_assoc (part_text p) (flat_map part_text ps) rest) h.0

-- where nothing stands, there is one answer
one_fault : (kind : Kind) (cs : List ℕ) (at : ℕ) (line : Bool) (ts : List Lexeme) (stop : Stop) → IsFaulty kind cs → Reads at line cs ts stop → answer ts stop ≡ answer [] (fault kind at)
one_fault kind cs at line [] end f g = nothing g.0 g.1
  where
    nothing : (ps : List Part) → Parted cs ps [] → answer [] end ≡ answer [] (fault kind at)
    nothing [] h = let e : first_of f ∷ f.more ≡ [] = sym f.left ∙ h.whole in absurd cc
      where
        first_of : IsFaulty kind cs → ℕ
        first_of f = f.first
    nothing (p ∷ ps) h = absurd (front_part kind cs p ps [] f h)
one_fault kind cs at line [] (fault k place) f g = same g.0 g.1 g.2 g.3 g.4
  where
    same : (ps : List Part) (rest : List ℕ) → Parted cs ps rest → place ≡ at + width (flat_map part_text ps) → IsFaulty k rest → answer [] (fault k place) ≡ answer [] (fault kind at)
    same [] rest h e x =
        let heads : x.first ∷ x.more ≡ f.first ∷ f.more = sym x.left ∙ sym h.whole ∙ f.left in
        let first : x.first ≡ f.first = cc in
        let kinds : k ≡ kind = x.kind_is ∙ ap (λ n. if is_digit n 10 then number else other) first ∙ sym f.kind_is in
        let places : place ≡ at = e ∙ add-zero at in
        λ i. answer [] (fault (kinds i) (places i))
    same (p ∷ ps) rest h e x = absurd (front_part kind cs p ps rest f h)
one_fault kind cs at line (t ∷ ts) stop f g = none g.0 g.1 g.2 g.3 g.4
  where
    none : (ps : List Part) (token rest : List ℕ) → Parted cs ps (token ++ rest) → IsToken t.content token rest → answer (t ∷ ts) stop ≡ answer [] (fault kind at)
    none [] token rest h x = absurd (f.no_token t.content token rest h.whole x)
    none (p ∷ ps) token rest h x = absurd (front_part kind cs p ps (token ++ rest) f h)

fault_run : (kind : Kind) (cs : List ℕ) (at : ℕ) (line : Bool) → IsFaulty kind cs → run (idle at line) cs ≡ answer [] (fault kind at)
fault_run kind cs at line f = one_fault kind cs at line (run (idle at line) cs).tokens (run (idle at line) cs).stop f ((sound cs).between at line)

parted_run : (cs : List ℕ) (ps : List Part) (rest : List ℕ) (at : ℕ) (line : Bool) → Parted cs ps rest → run (idle at line) cs ≡ run (idle (at + width (flat_map part_text ps)) (line || list_any has_line ps)) rest
parted_run cs ps rest at line h = ap (λ xs. run (idle at line) xs) h.whole ∙ parts_run ps rest at line h.each

-- what the definition gives is the machine's answer
pub complete : (ts : List Lexeme) (cs : List ℕ) (at : ℕ) (line : Bool) (stop : Stop) → Reads at line cs ts stop → run (idle at line) cs ≡ answer ts stop
complete [] cs at line end g = parted_run cs g.0 [] at line g.1
complete [] cs at line (fault kind place) g =
    parted_run cs g.0 g.1 at line g.2
    ∙ fault_run kind g.1 (at + width (flat_map part_text g.0)) (line || list_any has_line g.0) g.4
    ∙ ap (λ n. answer [] (fault kind n)) (sym g.3)
complete (t ∷ ts) cs at line stop g =
    let n : ℕ = at + width (flat_map part_text g.0) in
    let l : Bool = line || list_any has_line g.0 in
    let to : t.to ≡ n + width g.1 = g.6 ∙ ap (λ k. k + width g.1) g.5 in
    parted_run cs g.0 (g.1 ++ g.2) at line g.3
    ∙ token_run t.content g.1 g.2 n l g.4
    ∙ (λ i. after_tokens (lexeme t.content (sym g.5 i) (sym to i) (sym g.7 i) ∷ []) (run (idle (sym to i) false) g.2))
    ∙ ap (λ a. after_tokens (t ∷ []) a) (complete ts g.2 t.to false stop g.8)

-- two readings of one text are one
pub one_reading : (cs : List ℕ) (ts us : List Lexeme) (s r : Stop) → Reads 0 false cs ts s → Reads 0 false cs us r → (ts ≡ us) × (s ≡ r)
one_reading cs ts us s r g h =
    let e : answer ts s ≡ answer us r = sym (complete ts cs 0 false s g) ∙ complete us cs 0 false r h in
    (ap (λ a. a.tokens) e, ap (λ a. a.stop) e)
