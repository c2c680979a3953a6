-- Worked rows on the definitions, shown by computation.
use Rattle.std.proofs.Common.{◌≡◌, ◌-◌, ◌^◌, [], ◌∷◌, None, Some, true, false, refl}
use Rattle.mb_outer.specs.Counts.{one_more, names_next}
use Rattle.mb_outer.specs.Shelf.{Shelf, held}
use Rattle.mb_outer.specs.ShelfState.{ShelfState, is_sound, next_bytes, after_read}
use Rattle.mb_outer.specs.SinkState.{SinkState, room_told, after_put}

at_the_end : one_more (2 ^ 64 - 1) ≡ 2 ^ 64 - 1
at_the_end = refl

no_number_is_left : names_next ((2 ^ 64 - 1) ∷ []) (2 ^ 64 - 1) ≡ false
no_number_is_left = refl

-- the entries "a": 1 2 3 4 5, "b": nothing, and "a": 6
abbrev shelf : Shelf
shelf = (97 ∷ [], 1 ∷ 2 ∷ 3 ∷ 4 ∷ 5 ∷ []) ∷ (98 ∷ [], []) ∷ (97 ∷ [], 6 ∷ []) ∷ []

the_first_entry_counts : held (97 ∷ []) shelf ≡ Some (1 ∷ 2 ∷ 3 ∷ 4 ∷ 5 ∷ [])
the_first_entry_counts = refl

no_such_entry : held (99 ∷ []) shelf ≡ None
no_such_entry = refl

-- its text "a" is started, and the third call is to fail
abbrev library : ShelfState
library = record { shelf = shelf; rest = Some (1 ∷ 2 ∷ 3 ∷ 4 ∷ 5 ∷ []); piece = 3; failing = 3 ∷ []; calls = 1; faults = 0 }

a_piece : next_bytes library 4 ≡ Some (1 ∷ 2 ∷ 3 ∷ [])
a_piece = refl

a_small_buffer : next_bytes library 2 ≡ Some (1 ∷ 2 ∷ [])
a_small_buffer = refl

abbrev after_a_piece : ShelfState
after_a_piece = after_read library (next_bytes library 4)

the_third_call_fails : next_bytes after_a_piece 4 ≡ None
the_third_call_fails = refl

still_to_fail : is_sound after_a_piece ≡ false
still_to_fail = refl

after_the_fault : after_read after_a_piece None ≡ record { shelf = shelf; rest = Some (4 ∷ 5 ∷ []); piece = 3; failing = 3 ∷ []; calls = 3; faults = 1 }
after_the_fault = refl

the_rest : next_bytes (after_read after_a_piece None) 4 ≡ Some (4 ∷ 5 ∷ [])
the_rest = refl

sound_from_then_on : is_sound (after_read after_a_piece None) ≡ true
sound_from_then_on = refl

-- a room of 8, where the second put is to fail after one byte and the third after nine
abbrev sink : SinkState
sink = record { bytes = []; left = 8; failing = (2, 1) ∷ (2, 3) ∷ (3, 9) ∷ []; puts = 0; faults = 0 }

abbrev three : SinkState → SinkState
three s = after_put s (1 ∷ 2 ∷ 3 ∷ [])

two_puts : three (three sink) ≡ record { bytes = 1 ∷ 2 ∷ 3 ∷ 1 ∷ []; left = 4; failing = sink.failing; puts = 2; faults = 1 }
two_puts = refl

three_puts : three (three (three sink)) ≡ record { bytes = 1 ∷ 2 ∷ 3 ∷ 1 ∷ 1 ∷ 2 ∷ 3 ∷ []; left = 1; failing = sink.failing; puts = 3; faults = 2 }
three_puts = refl

room_before : room_told (three (three sink)) ≡ None
room_before = refl

room_after : room_told (three (three (three sink))) ≡ Some 1
room_after = refl

one_byte_fits : three (three (three (three sink))) ≡ record { bytes = 1 ∷ 2 ∷ 3 ∷ 1 ∷ 1 ∷ 2 ∷ 3 ∷ 1 ∷ []; left = 0; failing = sink.failing; puts = 4; faults = 3 }
one_byte_fits = refl
