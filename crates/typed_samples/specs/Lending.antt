use Rattle.typed_tables.specs.Tables.{Tables}
use Rattle.typed_samples.specs.declared.rooms.Rooms.{Rooms}

-- the tables that a sample lends
abbrev pub lent_by : Rooms → Tables
lent_by r = record {
  types = r.types;
  edges = r.edges;
  objects = r.objects;
  predicates = r.predicates;
  actions = r.actions;
  atoms = r.atoms;
  facts = r.facts;
  goal = r.goal;
  formulas = r.formulas;
  names = r.names;
}
