-- What each path of a query stands for in an instance: the environment of 01 "Instance", by the names of 01 "Query text".
use Rattle.std.specs.Prelude.{ℕ, List, None, Some, Option}
use Rattle.table.specs.declared.lookup.Property.{Property}
use Rattle.syntax.specs.declared.path.Path.{Path}
use Rattle.instance.specs.Value.{Entry, absent, environment}
use Rattle.instance.specs.Noted.{environment_noted}
use Rattle.operand.specs.Named.{named}

abbrev pub entry_found : (ℕ → Entry) → Option Property → Entry
entry_found env (Some p) = env p.number
entry_found env None = absent

unfoldable pub entry_named : (query table instance : List ℕ) → Path → Entry
entry_named q t i p = entry_found (environment t i) (named q t p)

-- the same by the noted places of the properties' records
unfoldable pub entry_noted : (query table instance notes : List ℕ) → Path → Entry
entry_noted q t i notes p = entry_found (environment_noted t i notes) (named q t p)
