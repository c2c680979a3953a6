-- How views evolve and are alike, as far as it is told by the keys that pass one test: the texts, or the symbols.
use Rattle.std.proofs.Common.{◌≡◌, Bool}
use Rattle.mb_desc.specs.View.{View}
use Rattle.mb_view.specs.Views.{Sort, is_text, is_symbol, property_of, KeepsFacts, keys_where, KeepsOrderBy, Evolves}
use Rattle.mb_view.specs.Following.{IsAlike}

module _ {K V : Type 0} (same_key : K → K → Bool) (is_name : K → Bool) where
  pub record EvolvesBy (old new : View K V) : Type 0 where
    pub facts : KeepsFacts same_key old new
    pub order : KeepsOrderBy same_key is_name old new

  pub record IsAlikeBy (one two : View K V) : Type 0 where
    pub prototype : one.prototype ≡ two.prototype
    pub extensible : one.extensible ≡ two.extensible
    pub properties : (key : K) → property_of same_key one key ≡ property_of same_key two key
    pub names : keys_where is_name one ≡ keys_where is_name two

abbrev pub is_text_key : {K : Type 0} → (K → Sort) → K → Bool
is_text_key sort_of key = is_text (sort_of key)

abbrev pub is_symbol_key : {K : Type 0} → (K → Sort) → K → Bool
is_symbol_key sort_of key = is_symbol (sort_of key)

-- both tests at once
module _ {K V : Type 0} (same_key : K → K → Bool) (sort_of : K → Sort) where
  pub evolves : (old new : View K V) → EvolvesBy same_key (is_text_key sort_of) old new → EvolvesBy same_key (is_symbol_key sort_of) old new → Evolves same_key sort_of old new
  evolves old new t s = record { facts = t.facts; order = record { texts = t.order; symbols = s.order } }

  pub by-texts : (old new : View K V) → Evolves same_key sort_of old new → EvolvesBy same_key (is_text_key sort_of) old new
  by-texts old new h = record { facts = h.facts; order = h.order.texts }

  pub by-symbols : (old new : View K V) → Evolves same_key sort_of old new → EvolvesBy same_key (is_symbol_key sort_of) old new
  by-symbols old new h = record { facts = h.facts; order = h.order.symbols }

  pub alike : (one two : View K V) → IsAlikeBy same_key (is_text_key sort_of) one two → IsAlikeBy same_key (is_symbol_key sort_of) one two → IsAlike same_key sort_of one two
  alike one two t s = record { prototype = t.prototype; extensible = t.extensible; properties = t.properties; texts = t.names; symbols = s.names }

  pub alike-texts : (one two : View K V) → IsAlike same_key sort_of one two → IsAlikeBy same_key (is_text_key sort_of) one two
  alike-texts one two h = record { prototype = h.prototype; extensible = h.extensible; properties = h.properties; names = h.texts }

  pub alike-symbols : (one two : View K V) → IsAlike same_key sort_of one two → IsAlikeBy same_key (is_symbol_key sort_of) one two
  alike-symbols one two h = record { prototype = h.prototype; extensible = h.extensible; properties = h.properties; names = h.symbols }
