-- How a text is read piece by piece.
use Rattle.std.proofs.Common.{◌≡◌, ◌<◌, ◌≤◌, ◌+◌, min, ℕ, ◌++◌, List, [], Option, Some, None, take, drop, length, append_assoc, sym, ap, ◌∙◌, refl, arith, length-append, subst}
use Rattle.std.proofs.lemmas.Grind.{common_steps}
use Rattle.std.proofs.lemmas.List.{append-nil, drop_all, length-take}
use Rattle.std.proofs.Math.Seq.{drop-append_seam}
use Rattle.std.specs.Prelude.{option_map}
use Rattle.std.proofs.lemmas.Option.{none-some, same_Some}
use Rattle.mb_outer.specs.Causes.{Starts, Gets}
use Rattle.mb_outer.specs.Shelf.{Shelf, held}
use Rattle.mb_outer.specs.declared.library.Start.TheVariants as start
use Rattle.mb_outer.specs.declared.library.Got.TheVariants as got
use Rattle.mb_cli.specs.Tasks.{behind}
use Rattle.mb_lexer.specs.Feeding.{Lexing, Fed}
use Rattle.mb_cli.specs.machine.Scanned.{IsScanned}

-- where the library tells its texts, the text of the name is what was read, and then what is left
pub record IsRead (shelf : Shelf) (name : List ℕ) (rest : Option (List ℕ)) (text : List ℕ) : Type 0 where
  pub left : List ℕ
  pub rest_is : rest ≡ Some left
  pub text_is : held name shelf ≡ Some (text ++ left)

pub read_started : (shelf : Option Shelf) (name : List ℕ) (rest : Option (List ℕ)) → Starts shelf name rest start.Started
    → (s : Shelf) → shelf ≡ Some s → IsRead s name rest []
read_started None name rest h s is = absurd (none-some s is)
read_started (Some t) name rest h s is = record { left = h.0; rest_is = h.2; text_is = ap (held name) (sym (same_Some _ _ is)) ∙ h.1 }

pub read_more : (shelf : Shelf) (name : List ℕ) (rest next : Option (List ℕ)) (text into : List ℕ) (n : ℕ)
    → IsRead shelf name rest text → Gets rest next into (got.Bytes n) → IsRead shelf name next (text ++ take n into)
read_more shelf name None next text into n h r = absurd (none-some h.left h.rest_is)
read_more shelf name (Some left) next text into n h r = record {
  left = r.0;
  rest_is = r.1;
  text_is = h.text_is ∙ ap (λ x. Some (text ++ x)) (sym (same_Some _ _ h.rest_is) ∙ r.2) ∙ ap Some (sym (append_assoc text (take n into) r.0));
}

pub read_ended : (shelf : Shelf) (name : List ℕ) (rest next : Option (List ℕ)) (text into : List ℕ) → 0 < length into
    → IsRead shelf name rest text → Gets rest next into (got.Bytes 0) → held name shelf ≡ Some text
read_ended shelf name None next text into some h r = absurd (none-some h.left h.rest_is)
read_ended shelf name (Some left) next text into some h r =
    h.text_is ∙ ap (λ x. Some (text ++ x)) (sym (same_Some _ _ h.rest_is) ∙ r.2 ∙ r.3 refl some) ∙ ap Some (append-nil text)

-- a text of which more was read than it may have
pub read_long : (most : ℕ) (shelf : Shelf) (name : List ℕ) (rest : Option (List ℕ)) (text : List ℕ) → most < length text → IsRead shelf name rest text
    → (whole : List ℕ) × (held name shelf ≡ Some whole) × (most < length whole)
read_long most shelf name rest text long h = (text ++ h.left, h.text_is, omega (arith, length-append text h.left))

-- how long the buffer of a read is
pub buffer_length : (buffer piece : List ℕ) (count left : ℕ) → length buffer ≡ length (take count piece) → length piece ≡ 4096 → count ≡ min 4096 left
    → length buffer ≡ min 4096 left
buffer_length buffer piece count left is long count_is = grind (arith, common_steps, is, long, count_is)

pub longer : (text more : List ℕ) (n : ℕ) (into : List ℕ) → more ≡ text ++ take n into → length more ≤ length text + n
longer text more n into is = grind (arith, common_steps, ap length is)

-- what is left where a text was read to its end, and where it has one byte more than it may have
pub rest_at_end : (most : ℕ) (shelf : Shelf) (name : List ℕ) (rest next : Option (List ℕ)) (text into : List ℕ) → 0 < length into → length text ≤ most
    → IsRead shelf name rest text → Gets rest next into (got.Bytes 0) → next ≡ option_map (behind (most + 1)) (held name shelf)
unfolding behind
rest_at_end most shelf name None next text into some short h r = absurd (none-some h.left h.rest_is)
rest_at_end most shelf name (Some left) next text into some short h r =
    r.1 ∙ ap Some (r.3 refl some ∙ sym (drop_all (most + 1) text (omega arith))) ∙ ap (option_map (behind (most + 1))) (sym (read_ended shelf name (Some left) next text into some h r))

pub rest_of_long : (most : ℕ) (shelf : Shelf) (name : List ℕ) (rest : Option (List ℕ)) (text : List ℕ) → length text ≡ most + 1 → IsRead shelf name rest text
    → rest ≡ option_map (behind (most + 1)) (held name shelf)
unfolding behind
rest_of_long most shelf name rest text long h =
    h.rest_is ∙ ap Some (sym (drop-append_seam text h.left) ∙ ap (λ n. drop n (text ++ h.left)) long) ∙ ap (option_map (behind (most + 1))) (sym h.text_is)

-- scripts that are lexed while they are read

-- the lexer stands for the bytes so far, which are those of the name's text where the library tells it
pub record IsAt (told : Option Shelf) (name : List ℕ) (rest : Option (List ℕ)) (texts : List (List ℕ)) (lexer : Lexing) : Type 0 where
  pub bytes : List ℕ
  pub fed : Fed lexer texts bytes
  pub read : (s : Shelf) → told ≡ Some s → IsRead s name rest bytes

pub at_start : (told : Option Shelf) (name : List ℕ) (rest : Option (List ℕ)) (texts : List (List ℕ)) (lexer : Lexing)
    → Starts told name rest start.Started → Fed lexer texts [] → IsAt told name rest texts lexer
at_start told name rest texts lexer started fed = record { bytes = []; fed = fed; read = read_started told name rest started }

pub at_more : (told : Option Shelf) (name : List ℕ) (rest next : Option (List ℕ)) (texts more : List (List ℕ)) (old new : Lexing) (into piece : List ℕ) (n : ℕ)
    → IsAt told name rest texts old → Gets rest next into (got.Bytes n) → piece ≡ take n into
    → ((bytes : List ℕ) → Fed old texts bytes → Fed new more (bytes ++ piece)) → IsAt told name next more new
at_more told name rest next texts more old new into piece n h reads is feeds = record {
  bytes = h.bytes ++ piece;
  fed = feeds h.bytes h.fed;
  read = λ s tells. subst (λ x. IsRead s name next (h.bytes ++ x)) (sym is) (read_more s name rest next h.bytes into n (h.read s tells) reads);
}

pub fed_within : (texts : List (List ℕ)) (lexer : Lexing) (bytes : List ℕ) → Fed lexer texts bytes → lexer.fed ≤ 1048576 → length bytes ≤ 1048576
fed_within texts lexer bytes fed within = omega (arith, fed.count)

pub scanned_whole : (told : Option Shelf) (name : List ℕ) (rest next : Option (List ℕ)) (texts : List (List ℕ)) (lexer : Lexing) (into : List ℕ) → 0 < length into
    → lexer.fed ≤ 1048576 → IsAt told name rest texts lexer → Gets rest next into (got.Bytes 0) → (s : Shelf) → told ≡ Some s
    → IsScanned texts (held name s) (Some lexer)
scanned_whole told name rest next texts lexer into some within h reads s tells =
    subst (λ x. IsScanned texts x (Some lexer)) (sym (read_ended s name rest next h.bytes into some (h.read s tells) reads))
    (fed_within texts lexer h.bytes h.fed within, h.fed)

pub scanned_long : (told : Option Shelf) (name : List ℕ) (rest next : Option (List ℕ)) (texts : List (List ℕ)) (lexer : Lexing) (into : List ℕ) (n : ℕ)
    → n ≤ length into → 1048576 < lexer.fed + n → IsAt told name rest texts lexer → Gets rest next into (got.Bytes n) → (s : Shelf) → told ≡ Some s
    → IsScanned texts (held name s) None
scanned_long told name rest next texts lexer into n within long h reads s tells =
    let all : 1048576 < length (h.bytes ++ take n into) = omega (arith, h.fed.count, length-append h.bytes (take n into), length-take n into) in
    let found = read_long 1048576 s name next (h.bytes ++ take n into) all (read_more s name rest next h.bytes into n (h.read s tells) reads) in
    subst (λ x. IsScanned texts x None) (sym found.1) found.2

pub left_whole : (told : Option Shelf) (name : List ℕ) (rest next : Option (List ℕ)) (texts : List (List ℕ)) (lexer : Lexing) (into : List ℕ) → 0 < length into
    → lexer.fed ≤ 1048576 → IsAt told name rest texts lexer → Gets rest next into (got.Bytes 0) → (s : Shelf) → told ≡ Some s
    → next ≡ option_map (behind 1048577) (held name s)
left_whole told name rest next texts lexer into some within h reads s tells =
    rest_at_end 1048576 s name rest next h.bytes into some (fed_within texts lexer h.bytes h.fed within) (h.read s tells) reads

pub left_long : (told : Option Shelf) (name : List ℕ) (rest next : Option (List ℕ)) (texts : List (List ℕ)) (lexer : Lexing) (into : List ℕ) (n : ℕ)
    → n ≤ length into → lexer.fed + n ≡ 1048577 → IsAt told name rest texts lexer → Gets rest next into (got.Bytes n) → (s : Shelf) → told ≡ Some s
    → next ≡ option_map (behind 1048577) (held name s)
left_long told name rest next texts lexer into n within long h reads s tells =
    let all : length (h.bytes ++ take n into) ≡ 1048576 + 1 = omega (arith, h.fed.count, length-append h.bytes (take n into), length-take n into) in
    rest_of_long 1048576 s name next (h.bytes ++ take n into) all (read_more s name rest next h.bytes into n (h.read s tells) reads)
