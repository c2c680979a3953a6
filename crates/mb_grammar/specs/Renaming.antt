-- Names under other ids.
use Rattle.std.specs.Prelude.{List, Option, Some, None, map}
use Rattle.mb_base.specs.declared.value.StrId.{StrId}
use Rattle.mb_token.specs.declared.token.Token.{Token}
use Rattle.mb_token.specs.declared.token.Token.TheVariants as t
use Rattle.mb_token.specs.declared.token.Spanned.{Spanned}
use Rattle.mb_tree.specs.Roses.{Label, Rose, Roses, node, none, more, Shape}

abbrev pub renamed_name : (StrId → StrId) → Option StrId → Option StrId
renamed_name f None = None
renamed_name f (Some n) = Some (f n)

abbrev pub renamed_token : (StrId → StrId) → Token → Token
renamed_token f (t.Name n) = t.Name (f n)
renamed_token f (t.Soft soft n) = t.Soft soft (f n)
renamed_token f (t.Reserved word n) = t.Reserved word (f n)
renamed_token f (t.Whole z) = t.Whole z
renamed_token f (t.Text n) = t.Text (f n)
renamed_token f (t.Mark mark) = t.Mark mark

abbrev pub renamed_spanned : (StrId → StrId) → Spanned → Spanned
renamed_spanned f s = record { token = renamed_token f s.token; from = s.from; to = s.to; after_line = s.after_line }

abbrev pub renamed_tokens : (StrId → StrId) → List Spanned → List Spanned
renamed_tokens f = map (renamed_spanned f)

abbrev pub renamed_label : (StrId → StrId) → Label → Label
renamed_label f l = record { kind = l.kind; name = renamed_name f l.name; whole = l.whole }

abbrev mutual
  pub renamed : (StrId → StrId) → Rose → Rose
  renamed f (node label parts) = node (renamed_label f label) (renamed_all f parts)

  pub renamed_all : (StrId → StrId) → Roses → Roses
  renamed_all f none = none
  renamed_all f (more part parts) = more (renamed f part) (renamed_all f parts)

abbrev pub renamed_shape : (StrId → StrId) → Shape → Shape
renamed_shape f s = record { label = renamed_label f s.label; children = s.children }
