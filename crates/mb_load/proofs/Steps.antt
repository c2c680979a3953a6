-- One line more.
use Rattle.std.proofs.Common.{◌≡◌, ℕ, ◌+◌, List, [], ◌∷◌, ◌++◌, codes, refl, sym, ap, ◌∙◌, add-one, append_assoc}
use Rattle.mb_load.specs.Pair.{line, following, number, kind_of, push_line, left_script}

pub number_next : (start done : ℕ) → following (number start done) ≡ number start (done + 1)
number_next start done = rw (add-one done) refl

pub script_next : (start done : ℕ) → left_script start done ++ push_line (kind_of (number start (done + 1))) (done + 1) ≡ left_script start (done + 1)
script_next start done = rw (add-one done) refl

-- a line is what its element stands in
pub wrapped : (text element : List ℕ) → text ≡ element → codes "desk.list.push(" ++ text ++ (codes ");" ++ 10 ∷ []) ≡ line (codes "desk.list.push(" ++ element ++ codes ");")
wrapped text element e = sym (append_assoc (codes "desk.list.push(" ++ text) (codes ");") (10 ∷ [])) ∙ ap (λ t. line (codes "desk.list.push(" ++ t ++ codes ");")) e
