-- What stands in the tables of a program.
use Rattle.std.specs.Prelude.{length}
use Rattle.spx_core.specs.ResolvedDeclarations.{Before}
use Rattle.spx_naming.specs.declared.tables.Tables.{Tables}

abbrev pub before_in : Tables → Before
before_in tables = record { vars = length tables.vars; types = tables.types }
