-- What the definition says, one part, token or fault at a time.
use Rattle.std.proofs.Common.{◌≡◌, ℕ, ◌+◌, Bool, true, false, ◌||◌, List, [], ◌∷◌, ◌++◌, Ok, refl, sym, ap, subst, ◌∙◌, append_assoc, add-zero, arith}
use Rattle.std.specs.List.{flat_map, list_any}
use Rattle.std.proofs.lemmas.Bool.{and_from}
use Rattle.mb_lexer.specs.Characters.{width}
use Rattle.mb_lexer.specs.Parts.{Part, part_text, is_part, has_line}
use Rattle.mb_lexer.specs.Tokens.{Content, IsToken}
use Rattle.mb_lexer.specs.Reading.{Lexeme, Kind, Stop, end, fault, Parted, Reads, IsFaulty, kind_of}
use Rattle.mb_lexer.specs.machine.Machine.{Machine, Answer, idle, lexeme, ended, run}
use Rattle.mb_lexer.proofs.Steps.{Stops, run_ends}
use Rattle.mb_lexer.proofs.Parting.{width-append, or_false, or_assoc}
use Rattle.mb_lexer.proofs.Complete.{faulty}
use Rattle.mb_lexer.proofs.Open.{Told, IsOpen, told_same}

-- a part before parts
parted : (p : Part) (rest : List ℕ) (ps : List Part) (r : List ℕ) → is_part p rest ≡ true → Parted rest ps r → Parted (part_text p ++ rest) (p ∷ ps) r
parted p rest ps r h g = record {
  whole = ap (λ xs. part_text p ++ xs) g.whole ∙ sym (append_assoc (part_text p) (flat_map part_text ps) r);
  each = and_from _ _ (subst (λ xs. is_part p xs ≡ true) g.whole h) g.each;
}

moved_on : (p : Part) (ps : List Part) (at n : ℕ) → n ≡ at + width (part_text p) + width (flat_map part_text ps) → n ≡ at + width (flat_map part_text (p ∷ ps))
moved_on p ps at n e = rw (width-append (part_text p) (flat_map part_text ps)) (omega arith)

-- a part, and what comes after it
pub part_reads : (p : Part) (rest : List ℕ) (at : ℕ) (line : Bool) (ts : List Lexeme) (stop : Stop) → is_part p rest ≡ true → Reads (at + width (part_text p)) (line || has_line p) rest ts stop → Reads at line (part_text p ++ rest) ts stop
part_reads p rest at line [] end h g = (p ∷ g.0, parted p rest g.0 [] h g.1)
part_reads p rest at line [] (fault kind place) h g = (p ∷ g.0, g.1, parted p rest g.0 g.1 h g.2, moved_on p g.0 at place g.3, g.4)
part_reads p rest at line (t ∷ ts) stop h g =
    (p ∷ g.0, g.1, g.2, parted p rest g.0 (g.1 ++ g.2) h g.3, g.4, moved_on p g.0 at t.from g.5, g.6, g.7 ∙ or_assoc line (has_line p) (list_any has_line g.0), g.8)

-- a token, and what comes after it
pub token_reads : (t : Lexeme) (token rest : List ℕ) (at : ℕ) (line : Bool) (ts : List Lexeme) (stop : Stop) → IsToken t.content token rest → t.from ≡ at → t.to ≡ at + width token → t.after_line ≡ line → Reads t.to false rest ts stop → Reads at line (token ++ rest) (t ∷ ts) stop
token_reads t token rest at line ts stop h f o l g =
    ([], token, rest, record { whole = refl; each = refl }, h, f ∙ sym (add-zero at), o ∙ ap (λ n. n + width token) (sym f), l ∙ sym (or_false line), g)

-- the open token ends here
pub token_ends : (m : Machine) (before : Bool) (seen rest : List ℕ) (t : Content) → IsOpen m before seen → IsToken t seen rest → m.line ≡ before → ended m.state m ≡ Ok (lexeme t m.from m.to m.line ∷ []) → Stops m rest
    → Told m.to false rest (run (idle m.to false) rest) → Told m.from before (seen ++ rest) (run m rest)
token_ends m before seen rest t o h l e s g =
    told_same m.from before _ _ _ _ refl (sym (run_ends m (lexeme t m.from m.to m.line ∷ []) rest e s))
    (token_reads (lexeme t m.from m.to m.line) seen rest m.from before _ _ h refl o.place l g)

-- the open token is faulty
pub fault_here : (m : Machine) (before : Bool) (seen rest : List ℕ) (kind : Kind) (first : ℕ) (more : List ℕ) → IsOpen m before seen → seen ≡ first ∷ more → run m rest ≡ record { tokens = []; stop = fault kind m.from } → kind ≡ kind_of first
    → Told m.from before (seen ++ rest) (run m rest)
fault_here m before seen rest kind first more o e h k =
    let f : seen ++ rest ≡ first ∷ (more ++ rest) = ap (λ xs. xs ++ rest) e in
    let r : run (idle m.from before) (first ∷ (more ++ rest)) ≡ record { tokens = []; stop = fault kind m.from } = ap (λ xs. run (idle m.from before) xs) (sym f) ∙ o.reached rest ∙ h in
    let x : IsFaulty kind (first ∷ (more ++ rest)) = faulty kind first (more ++ rest) m.from before r k in
    told_same m.from before (first ∷ (more ++ rest)) (seen ++ rest) (record { tokens = []; stop = fault kind m.from }) (run m rest) (sym f) (sym h)
    ([], first ∷ (more ++ rest), record { whole = refl; each = refl }, sym (add-zero m.from), x)

-- a part ends here
pub part_done : (from to : ℕ) (before now : Bool) (seen rest : List ℕ) (p : Part) (a : Answer) → to ≡ from + width seen → seen ≡ part_text p → is_part p rest ≡ true → now ≡ (before || has_line p) → Told to now rest a → Told from before (seen ++ rest) a
part_done from to before now seen rest p a w e h l g =
    told_same from before (part_text p ++ rest) (seen ++ rest) a a (ap (λ xs. xs ++ rest) (sym e)) refl
    (part_reads p rest from before _ _ h (subst (λ n. Reads n (before || has_line p) rest a.tokens a.stop) (w ∙ ap (λ xs. from + width xs) e) (subst (λ b. Reads to b rest a.tokens a.stop) l g)))

pub part_ends : (m : Machine) (before : Bool) (seen rest : List ℕ) (p : Part) → IsOpen m before seen → seen ≡ part_text p → is_part p rest ≡ true → m.line ≡ (before || has_line p) → run m rest ≡ run (idle m.to m.line) rest
    → Told m.to m.line rest (run (idle m.to m.line) rest) → Told m.from before (seen ++ rest) (run m rest)
part_ends m before seen rest p o e h l r g =
    told_same m.from before (seen ++ rest) (seen ++ rest) (run (idle m.to m.line) rest) (run m rest) refl (sym r)
    (part_done m.from m.to before m.line seen rest p (run (idle m.to m.line) rest) o.place e h l g)
