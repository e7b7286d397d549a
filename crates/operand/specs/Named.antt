-- 01 "Query text": "`A`, or `Class.A` with the table's class, names a property; a reserved word needs the class. Another class or a further dot is 20."
use Rattle.std.specs.Prelude.{ℕ, ◌-◌, List, ◌&&◌, eqb, None, Option}
use Rattle.base.specs.Pick.{pick}
use Rattle.base.specs.Part.{part}
use Rattle.record.specs.Name.{same_name}
use Rattle.table.specs.Properties.{class_name, find_property}
use Rattle.table.specs.declared.lookup.Property.{Property}
use Rattle.syntax.specs.declared.path.Span.{Span}
use Rattle.syntax.specs.declared.path.Path.{Path}

-- a name as it stands in the query
abbrev pub spanned : List ℕ → Span → List ℕ
spanned q s = part q s.start (s.end - s.start)

-- the property that a path names
unfoldable pub named : (query table : List ℕ) → Path → Option Property
named q t p =
    pick (eqb p.names 1) (find_property t (spanned q p.first))
    (pick (eqb p.names 2 && same_name (class_name t) (spanned q p.first)) (find_property t (spanned q p.second)) None)
