-- Parts of lists: what holds of each element of two parts, and where lists that end alike are the same.
use Rattle.std.proofs.Common.{List, [], refl, ◌++◌, ◌∷◌, ◌≡◌}
use Rattle.std.proofs.lemmas.List.Elements.{All-cons, All-head, All-nil, All-tail}
use Rattle.std.specs.List.{AllByRecursion, flat_map}
use Rattle.std.specs.Prelude.{All}

module _ {A : Type 0} (P : A → Type 0) where
  pub all-both : (a b : List A) → AllByRecursion P a → AllByRecursion P b → AllByRecursion P (a ++ b)
  all-both [] b h k = k
  all-both (x ∷ xs) b h k = (h.0, all-both xs b h.1 k)

  pub all-first : (a b : List A) → AllByRecursion P (a ++ b) → AllByRecursion P a
  all-first [] b h = tt
  all-first (x ∷ xs) b h = (h.0, all-first xs b h.1)

  pub all-second : (a b : List A) → AllByRecursion P (a ++ b) → AllByRecursion P b
  all-second [] b h = h
  all-second (x ∷ xs) b h = all-second xs b h.1

  pub all-then : (Q : A → Type 0) → ((x : A) → P x → Q x) → (xs : List A) → AllByRecursion P xs → AllByRecursion Q xs
  all-then Q f [] h = tt
  all-then Q f (x ∷ xs) h = (f x h.0, all-then Q f xs h.1)

-- the same by places
module _ {A : Type 0} (P : A → Type 0) where
  pub left-part : (a b : List A) → All P (a ++ b) → All P a
  left-part [] b h = All-nil P
  left-part (x ∷ xs) b h = All-cons P x xs (All-head P x (xs ++ b) h) (left-part xs b (All-tail P x (xs ++ b) h))

  pub right-part : (a b : List A) → All P (a ++ b) → All P b
  right-part [] b h = h
  right-part (x ∷ xs) b h = right-part xs b (All-tail P x (xs ++ b) h)

  -- what stands in the lists of each element
  pub each-part : {B : Type 0} (f : B → List A) (bs : List B) → All P (flat_map f bs) → All (λ b. All P (f b)) bs
  each-part f [] h = All-nil (λ b. All P (f b))
  each-part f (b ∷ bs) h =
      All-cons (λ b. All P (f b)) b bs (left-part (f b) (flat_map f bs) h)
      (each-part f bs (right-part (f b) (flat_map f bs) h))

-- what holds of each in two ways
pub all-and : {A : Type 0} (P Q : A → Type 0) (xs : List A) → All P xs → All Q xs → All (λ x. P x × Q x) xs
all-and P Q xs h k = λ n d u. (h n d u, k n d u)

pub same-ends : {A : Type 0} (a b c : List A) → a ++ b ≡ a ++ c → b ≡ c
same-ends [] b c e = e
same-ends (x ∷ xs) b c e = same-ends xs b c cc

-- two lists with a last element each are the same: so are both of their parts
pub same-starts : {A : Type 0} (a b : List A) (x y : A) → a ++ (x ∷ []) ≡ b ++ (y ∷ []) → a ≡ b
same-starts [] [] x y e = refl
same-starts [] (z ∷ []) x y e = cc
same-starts [] (z ∷ u ∷ b) x y e = cc
same-starts (z ∷ []) [] x y e = cc
same-starts (z ∷ u ∷ a) [] x y e = cc
same-starts (z ∷ a) (u ∷ b) x y e =
    let t : a ++ (x ∷ []) ≡ b ++ (y ∷ []) = cc in
    let h : z ≡ u = cc in
    let k : a ≡ b = same-starts a b x y t in
    cc

pub same-lasts : {A : Type 0} (a b : List A) (x y : A) → a ++ (x ∷ []) ≡ b ++ (y ∷ []) → x ≡ y
same-lasts [] [] x y e = cc
same-lasts [] (z ∷ []) x y e = cc
same-lasts [] (z ∷ u ∷ b) x y e = cc
same-lasts (z ∷ []) [] x y e = cc
same-lasts (z ∷ u ∷ a) [] x y e = cc
same-lasts (z ∷ a) (u ∷ b) x y e = same-lasts a b x y cc
