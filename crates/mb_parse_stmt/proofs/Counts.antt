-- Counts of operands, places within the tokens, and moves that come nearer to the end.
use Rattle.std.proofs.Common.{◌≡◌, ℕ, ◌+◌, ◌≤◌, Bool, List, ◌∷◌, length, Option, ap, ◌∙◌, arith}
use Rattle.mb_base.specs.declared.value.NodeId.{NodeId}
use Rattle.mb_token.specs.declared.token.Spanned.{Spanned}
use Rattle.mb_tree.specs.Roses.{Rose, Roses, none, more, Shape, size}
use Rattle.mb_tree.specs.machine.Operands.{pushed}
use Rattle.mb_tree.proofs.Written.{places_length}
use Rattle.mb_grammar.specs.declared.role.Role.TheVariants as r
use Rattle.mb_grammar.specs.declared.level.Level.{Level}
use Rattle.mb_parse_stmt.specs.declared.machine.Stop.{Stop}
use Rattle.mb_parse_stmt.specs.declared.machine.Frame.{Frame}
use Rattle.mb_parse_stmt.specs.declared.machine.Mode.{Mode}
use Rattle.mb_parse_stmt.specs.declared.machine.Mode.TheVariants as mo
use Rattle.mb_parse_stmt.specs.machine.Machine.{count_of, Going}
use Rattle.mb_tree.specs.machine.Stack.{top, laid}
use Rattle.mb_parse_stmt.specs.machine.Covers.{Counted, no_statement, one_more, Commas, no_comma, comma_more, NameCommas, no_name, name_more, CatchHead, nameless, head_named, Lists, top_list, block_list, body_list, Subs, sub_list, in_then, in_else, in_while, in_do, in_for, Blocks, block_sub, in_try, in_catch, in_finally, Dones, done_statement, done_sub, done_block, Parts, part_first, part_test, part_last, Declarings, in_let, in_const, in_for_let, Declareds, declared_one, Askings, ask_if, ask_while, ask_do, ask_part, ask_return, ask_throw, ask_expression, ask_value, Behinds, behind_expression, behind_lets, InParams, in_params, InComma, in_comma, CatchNames, catch_name, Good}
use Rattle.mb_parse_stmt.proofs.Places.{word_within, role_within, end_within, block_within, sub_within, statement_within}
use Rattle.mb_parse_stmt.specs.machine.Progress.{Reading, Wanting}

-- the place that is read next

counted_within : {ts : List Spanned} {n : ℕ} {rs rs' : List Rose} {i k : ℕ} → i ≤ length ts → Counted ts n rs rs' i k → k ≤ length ts
counted_within h no_statement = h
counted_within {ts = ts} h (one_more c d m) = statement_within ts d

commas_within : {ts : List Spanned} {fixed : Bool} {n : ℕ} {rs rs' : List Rose} {i k : ℕ} → i ≤ length ts → Commas ts fixed n rs rs' i k → k ≤ length ts
commas_within h no_comma = h
commas_within {ts = ts} h (comma_more {k = k} c d e m q) = let w = role_within ts k r.Comma e (λ z. cc) in omega (arith, w, q)

names_within : {ts : List Spanned} {n : ℕ} {rs rs' : List Rose} {i k : ℕ} → i ≤ length ts → NameCommas ts n rs rs' i k → k ≤ length ts
names_within h no_name = h
names_within {ts = ts} h (name_more {j = j} c d e m q) = let w = role_within ts (j + 1) r.Comma e (λ z. cc) in omega (arith, w, q)

head_within : {ts : List Spanned} {has : Bool} {rs rs' : List Rose} {i k : ℕ} → CatchHead ts has rs rs' i k → k ≤ length ts
head_within {ts = ts} (nameless {i = i} e) = word_within ts i _ e
head_within {ts = ts} (head_named {i = i} e o n u) = role_within ts (i + 1 + 1 + 1) r.Close u (λ z. cc)

module _ (ts : List Spanned) (start : ℕ) where
  lists_within : {fs : List Frame} {rs : List Rose} {k : ℕ} → Lists ts start fs rs k → k ≤ length ts
  lists_within (top_list h c) = counted_within h c
  lists_within (block_list {i = i} bl o c) = counted_within (role_within ts i r.OpenBrace o (λ z. cc)) c
  lists_within (body_list {m = m} sp t d u v z c) = counted_within (role_within ts (m + 1) r.OpenBrace v (λ q. cc)) c

  subs_within : {fs : List Frame} {rs : List Rose} {k : ℕ} → Subs ts start fs rs k → k ≤ length ts
  subs_within (sub_list sp) = lists_within sp
  subs_within (in_then {m = m} sp g o d u q) = let w = role_within ts m r.Close u (λ z. cc) in omega (arith, w, q)
  subs_within (in_else {n = n} sp g o d u b x q) = let w = word_within ts n _ x in omega (arith, w, q)
  subs_within (in_while {m = m} sp g o d u q) = let w = role_within ts m r.Close u (λ z. cc) in omega (arith, w, q)
  subs_within (in_do {i = i} sp g q) = let w = word_within ts i _ g in omega (arith, w, q)
  subs_within (in_for sp h) = let w = role_within ts h.n r.Close h.close (λ z. cc) in omega (arith, w, h.place)

  blocks_within : {fs : List Frame} {rs : List Rose} {k : ℕ} → Blocks ts start fs rs k → k ≤ length ts
  blocks_within (block_sub sp) = subs_within sp
  blocks_within (in_try {i = i} sp g q) = let w = word_within ts i _ g in omega (arith, w, q)
  blocks_within (in_catch sp g bl h) = head_within h
  blocks_within (in_finally {n = n} sp g bl c u s q) = let w = word_within ts n _ u in omega (arith, w, q)

  dones_within : {fs : List Frame} {rs : List Rose} {k : ℕ} → Dones ts start fs rs k → k ≤ length ts
  dones_within (done_statement sp d) = statement_within ts d
  dones_within (done_sub sp d) = sub_within ts d
  dones_within (done_block sp d) = block_within d

  parts_within : {fs : List Frame} {rs : List Rose} {k : ℕ} → Parts ts start fs rs k → k ≤ length ts
  parts_within (part_first {i = i} sp op q) = let w = role_within ts (i + 1) r.Open op.paren (λ z. cc) in omega (arith, w, q)
  parts_within (part_test sp h) = let w = role_within ts h.m r.Semicolon h.semicolon (λ z. cc) in omega (arith, w, h.place)
  parts_within (part_last sp h) = let w = role_within ts h.n r.Semicolon h.semicolon (λ z. cc) in omega (arith, w, h.place)

  declarings_within : {fixed : Bool} {fs : List Frame} {rs : List Rose} {k : ℕ} → Declarings ts start fixed fs rs k → k ≤ length ts
  declarings_within (in_let {i = i} sp g c) = commas_within (word_within ts i _ g) c
  declarings_within (in_const {i = i} sp g c) = commas_within (word_within ts i _ g) c
  declarings_within (in_for_let {i = i} sp op g c) = commas_within (word_within ts (i + 1 + 1) _ g) c

  declareds_within : {fs : List Frame} {rs : List Rose} {k : ℕ} → Declareds ts start fs rs k → k ≤ length ts
  declareds_within (declared_one sp d h) = h

  askings_within : {level : Level} {fs : List Frame} {rs : List Rose} {k : ℕ} → Askings ts start level fs rs k → k ≤ length ts
  askings_within (ask_if {i = i} sp g o q) = let w = role_within ts (i + 1) r.Open o (λ z. cc) in omega (arith, w, q)
  askings_within (ask_while {i = i} sp g o q) = let w = role_within ts (i + 1) r.Open o (λ z. cc) in omega (arith, w, q)
  askings_within (ask_do {m = m} sp g d u o q) = let w = role_within ts (m + 1) r.Open o (λ z. cc) in omega (arith, w, q)
  askings_within (ask_part sp) = parts_within sp
  askings_within (ask_return {i = i} sp g l q) = let w = word_within ts i _ g in omega (arith, w, q)
  askings_within (ask_throw {i = i} sp g l q) = let w = word_within ts i _ g in omega (arith, w, q)
  askings_within (ask_expression sp n n') = subs_within sp
  askings_within (ask_value {i = i} sp n b q) = let w = role_within ts (i + 1) r.Becomes b (λ z. cc) in omega (arith, w, q)

  behinds_within : {fs : List Frame} {rs : List Rose} {k : ℕ} → Behinds ts start fs rs k → k ≤ length ts
  behinds_within (behind_expression {level = level} {k = k} sp h) = end_within ts level k h.end
  behinds_within (behind_lets {k = k} sp op d s) = let w = role_within ts k r.Semicolon s (λ z. cc) in omega (arith, w)

  params_within : {fs : List Frame} {rs : List Rose} {k : ℕ} → InParams ts start fs rs k → k ≤ length ts
  params_within (in_params {i = i} sp t c) = names_within (role_within ts (i + 1 + 1) r.Open t.paren (λ z. cc)) c

  comma_within : {fs : List Frame} {rs : List Rose} {k : ℕ} → InComma ts start fs rs k → k ≤ length ts
  comma_within (in_comma {y = y} {j = j} sp t c n q) = let w = role_within ts j (r.Name y) n (λ z. cc) in omega (arith, w, q)

  catch_within : {fs : List Frame} {rs : List Rose} {k : ℕ} → CatchNames ts start fs rs k → k ≤ length ts
  catch_within (catch_name {m = m} sp g d u o q) = let w = role_within ts (m + 1) r.Open o (λ z. cc) in omega (arith, w, q)

  pub good_within : (stop : Stop) (fs : List Frame) (rs : List Rose) (mode : Mode) (at : ℕ) → Good stop ts start (Going fs rs mode at) → at ≤ length ts
  good_within stop fs rs mo.Statement at g = lists_within g
  good_within stop fs rs mo.Sub at g = subs_within g
  good_within stop fs rs mo.Done at g = dones_within g
  good_within stop fs rs (mo.Expression level) at g = askings_within g
  good_within stop fs rs mo.Behind at g = behinds_within g
  good_within stop fs rs mo.Part at g = parts_within g
  good_within stop fs rs mo.Declaration at g = declarings_within g.1
  good_within stop fs rs mo.Declared at g = declareds_within g
  good_within stop fs rs mo.Param at g = params_within g
  good_within stop fs rs mo.Comma at g = comma_within g
  good_within stop fs rs mo.Brace at g = blocks_within g
  good_within stop fs rs mo.CatchName at g = catch_within g

pub reading_within : {stop : Stop} {ts : List Spanned} {start : ℕ} {base : List Shape} {frames : List Frame} {mode : Mode} {at : ℕ} {ids : List NodeId} {shapes : List Shape} → Reading stop ts start base frames mode at ids shapes → at ≤ length ts
reading_within {stop = stop} {ts = ts} {start = start} {mode = mode} {at = at} h = good_within ts start stop h.fs h.rs mode at h.progress.sound

pub wanting_within : {stop : Stop} {ts : List Spanned} {start : ℕ} {base : List Shape} {level : Level} {frames : List Frame} {at : ℕ} {ids : List NodeId} {shapes : List Shape} → Wanting stop ts start base level frames at ids shapes → at ≤ length ts
wanting_within {ts = ts} {start = start} h = askings_within ts start h.progress.sound

-- counts

pub pushed_length : (parts : Roses) (rs : List Rose) → length (pushed parts rs) ≡ size parts + length rs
pushed_length none rs = omega arith
pushed_length (more p parts) rs = pushed_length parts (p ∷ rs) ∙ omega arith

counted_length : {ts : List Spanned} {n : ℕ} {rs rs' : List Rose} {i k : ℕ} → Counted ts n rs rs' i k → n + length rs ≤ length rs'
counted_length no_statement = omega arith
counted_length (one_more c d m) = omega (arith, m, counted_length c)

commas_length : {ts : List Spanned} {fixed : Bool} {n : ℕ} {rs rs' : List Rose} {i k : ℕ} → Commas ts fixed n rs rs' i k → n ≤ length rs'
commas_length no_comma = omega arith
commas_length (comma_more c d e m q) = omega (arith, m, commas_length c)

names_length : {ts : List Spanned} {n : ℕ} {rs rs' : List Rose} {i k : ℕ} → NameCommas ts n rs rs' i k → n ≤ length rs'
names_length no_name = omega arith
names_length (name_more c d e m q) = omega (arith, m, names_length c)

module _ {ts : List Spanned} {start : ℕ} where
  lists_count : {fs : List Frame} {rs : List Rose} {k : ℕ} → Lists ts start fs rs k → count_of (top fs) ≤ length rs
  lists_count (top_list h c) = omega (arith, counted_length c)
  lists_count (block_list bl o c) = omega (arith, counted_length c)
  lists_count (body_list {parts = parts} {rs = rs} sp t d u v z c) = omega (arith, counted_length c, z, pushed_length parts rs)

  subs_count : {fs : List Frame} {rs : List Rose} {k : ℕ} → Subs ts start fs rs k → count_of (top fs) ≤ length rs
  subs_count (sub_list sp) = lists_count sp
  subs_count _ = omega arith

  blocks_count : {fs : List Frame} {rs : List Rose} {k : ℕ} → Blocks ts start fs rs k → count_of (top fs) ≤ length rs
  blocks_count (block_sub sp) = subs_count sp
  blocks_count _ = omega arith

  dones_count : {fs : List Frame} {rs : List Rose} {k : ℕ} → Dones ts start fs rs k → count_of (top fs) ≤ length rs
  dones_count (done_statement sp d) = omega (arith, lists_count sp)
  dones_count (done_sub sp d) = omega (arith, subs_count sp)
  dones_count (done_block sp d) = omega (arith, blocks_count sp)

  parts_count : {fs : List Frame} {rs : List Rose} {k : ℕ} → Parts ts start fs rs k → count_of (top fs) ≤ length rs
  parts_count (part_first sp op q) = omega arith
  parts_count (part_test sp h) = omega arith
  parts_count (part_last sp h) = omega arith

  declarings_count : {fixed : Bool} {fs : List Frame} {rs : List Rose} {k : ℕ} → Declarings ts start fixed fs rs k → count_of (top fs) ≤ length rs
  declarings_count (in_let sp g c) = commas_length c
  declarings_count (in_const sp g c) = commas_length c
  declarings_count (in_for_let sp op g c) = commas_length c

  declareds_count : {fs : List Frame} {rs : List Rose} {k : ℕ} → Declareds ts start fs rs k → count_of (top fs) ≤ length rs
  declareds_count (declared_one sp d h) = omega (arith, declarings_count sp)

  askings_count : {level : Level} {fs : List Frame} {rs : List Rose} {k : ℕ} → Askings ts start level fs rs k → count_of (top fs) ≤ length rs
  askings_count (ask_part sp) = parts_count sp
  askings_count _ = omega arith

  behinds_count : {fs : List Frame} {rs : List Rose} {k : ℕ} → Behinds ts start fs rs k → count_of (top fs) ≤ length rs
  behinds_count (behind_expression sp h) = omega (arith, askings_count sp)
  behinds_count (behind_lets sp op d s) = omega arith

  params_count : {fs : List Frame} {rs : List Rose} {k : ℕ} → InParams ts start fs rs k → count_of (top fs) ≤ length rs
  params_count (in_params sp t c) = names_length c

  comma_count : {fs : List Frame} {rs : List Rose} {k : ℕ} → InComma ts start fs rs k → count_of (top fs) ≤ length rs
  comma_count (in_comma sp t c n q) = omega (arith, names_length c)

  catch_count : {fs : List Frame} {rs : List Rose} {k : ℕ} → CatchNames ts start fs rs k → count_of (top fs) ≤ length rs
  catch_count (catch_name sp g d u o q) = omega arith

good_count : (stop : Stop) (ts : List Spanned) (start : ℕ) (fs : List Frame) (rs : List Rose) (mode : Mode) (at : ℕ) → Good stop ts start (Going fs rs mode at) → count_of (top fs) ≤ length rs
good_count stop ts start fs rs mo.Statement at g = lists_count g
good_count stop ts start fs rs mo.Sub at g = subs_count g
good_count stop ts start fs rs mo.Done at g = dones_count g
good_count stop ts start fs rs (mo.Expression level) at g = askings_count g
good_count stop ts start fs rs mo.Behind at g = behinds_count g
good_count stop ts start fs rs mo.Part at g = parts_count g
good_count stop ts start fs rs mo.Declaration at g = declarings_count g.1
good_count stop ts start fs rs mo.Declared at g = declareds_count g
good_count stop ts start fs rs mo.Param at g = params_count g
good_count stop ts start fs rs mo.Comma at g = comma_count g
good_count stop ts start fs rs mo.Brace at g = blocks_count g
good_count stop ts start fs rs mo.CatchName at g = catch_count g

pub reading_count : {stop : Stop} {ts : List Spanned} {start : ℕ} {base : List Shape} {frames : List Frame} {mode : Mode} {at : ℕ} {ids : List NodeId} {shapes : List Shape} (h : Reading stop ts start base frames mode at ids shapes) (o : Option Frame) → ((fs : List Frame) → frames ≡ laid fs → o ≡ top fs) → count_of o ≤ length ids
reading_count {stop = stop} {ts = ts} {start = start} {base = base} {mode = mode} {at = at} h o tops =
    let e = tops h.fs h.frames_are in
    let g = good_count stop ts start h.fs h.rs mode at h.progress.sound in
    let q : count_of o ≡ count_of (top h.fs) = ap count_of e in
    omega (arith, g, q, ap length h.ids_are, places_length base h.rs)
