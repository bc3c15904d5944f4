use Rattle.std.specs.Prelude.{◌≡◌, ℕ, ◌<◌, Bool, true, cond, ◌⊎◌, List, [], ◌∷◌, map, length, Some, None, Option, nat_lt, slice_index_or}
use Rattle.std.specs.List.{ContainsAt, AllByRecursion}
use Rattle.std.specs.Str.{bytes_eq}
use Rattle.form.specs.Meanings.{Distinct}
use Rattle.types.specs.declared.edges.Edge.{Edge}
use Rattle.types.specs.declared.sets.TypeSet.{TypeSet}
use Rattle.types.specs.Sets.{In}
use Rattle.types.specs.Chains.{Fits}
use Rattle.atoms.specs.Layouts.{GroundAtom, ground}
use Rattle.atoms.specs.Formulas.{Term, object, parameter, Formula, falsum, atom, equality, negation, conjunction, disjunction, implication, ground_term, Holds}

-- The semantics of STRIPS with types, equality and full propositional preconditions. Types, predicates, constants and parameters go by their numbers.

-- a constant: its name and its types
pub record Constant : Type 0 where
  pub name : List ℕ
  pub types : TypeSet

-- a predicate with terms for its arguments
pub record TermAtom : Type 0 where
  pub predicate : ℕ
  pub terms : List Term

-- an action schema: its name, the types of its parameters, its precondition, and the atoms that it adds and deletes
pub record Schema : Type 0 where
  pub name : List ℕ
  pub parameters : List TypeSet
  pub precondition : Formula
  pub added : List TermAtom
  pub deleted : List TermAtom

-- a problem with its domain: edges between types, the types of each predicate's places, constants, schemas, initial facts, goal; every object is a constant of the domain
pub record Problem : Type 0 where
  pub edges : List Edge
  pub predicates : List (List TypeSet)
  pub constants : List Constant
  pub schemas : List Schema
  pub initial : List GroundAtom
  pub goal : Formula

-- a declared type: type 0, "object", or one that has a supertype
abbrev pub DeclaredType : Problem → ℕ → Type 0
DeclaredType p u = (u ≡ 0) ⊎ ContainsAt (map (λ e. e.subtype) p.edges) u

-- well-formed types: all supertypes are declared
abbrev pub WfTypes : Problem → Type 0
WfTypes p = AllByRecursion (λ e. DeclaredType p e.supertype) p.edges

-- a well-formed set of types has declared types only
abbrev pub WfType : Problem → TypeSet → Type 0
WfType p s = (u : ℕ) → In s u → DeclaredType p u

-- a well-formed predicate has well-formed types
abbrev pub WfPredicate : Problem → List TypeSet → Type 0
WfPredicate p places = AllByRecursion (WfType p) places

-- the types of a term, if it is a constant or one of the parameters
abbrev pub term_type : Problem → List TypeSet → Term → Option TypeSet
term_type p ps (object o) = cond (nat_lt o (length p.constants)) (Some (slice_index_or (map (λ c. c.types) p.constants) o (record { mask = 0 }))) None
term_type p ps (parameter k) = cond (nat_lt k (length ps)) (Some (slice_index_or ps k (record { mask = 0 }))) None

-- a term has a type
abbrev pub HasType : Problem → List TypeSet → Term → Type 0
HasType p ps x = (types : TypeSet) × (term_type p ps x ≡ Some types)

-- a term is of a type: its own types fit it
abbrev pub IsOfType : Problem → List TypeSet → Term → TypeSet → Type 0
IsOfType p ps x place = (types : TypeSet) × (term_type p ps x ≡ Some types) × Fits p.edges types place

-- two lists of one length are related place by place
abbrev pub Pairwise : {X Y : Type 0} → (X → Y → Type 0) → List X → List Y → Type 0
Pairwise R [] [] = Unit {0}
Pairwise R [] (y ∷ ys) = ⊥
Pairwise R (x ∷ xs) [] = ⊥
Pairwise R (x ∷ xs) (y ∷ ys) = R x y × Pairwise R xs ys

-- a well-formed atom: its predicate exists, and its terms are of the types of the predicate's places
pub record WfAtom (p : Problem) (ps : List TypeSet) (q : ℕ) (ts : List Term) : Type 0 where
  pub predicate_exists : q < length p.predicates
  pub terms_of_types : Pairwise (IsOfType p ps) ts (slice_index_or p.predicates q [])

-- a well-formed formula: its atoms are, and the terms of its equalities have types
abbrev pub WfFormula : Problem → List TypeSet → Formula → Type 0
WfFormula p ps falsum = Unit {0}
WfFormula p ps (atom q ts) = WfAtom p ps q ts
WfFormula p ps (equality s t) = HasType p ps s × HasType p ps t
WfFormula p ps (negation f) = WfFormula p ps f
WfFormula p ps (conjunction f g) = WfFormula p ps f × WfFormula p ps g
WfFormula p ps (disjunction f g) = WfFormula p ps f × WfFormula p ps g
WfFormula p ps (implication f g) = WfFormula p ps f × WfFormula p ps g

-- well-formed atoms of an effect
abbrev pub WfAtoms : Problem → List TypeSet → List TermAtom → Type 0
WfAtoms p ps list = AllByRecursion (λ a. WfAtom p ps a.predicate a.terms) list

-- a well-formed action schema
pub record WfSchema (p : Problem) (a : Schema) : Type 0 where
  pub precondition_wf : WfFormula p a.parameters a.precondition
  pub added_wf : WfAtoms p a.parameters a.added
  pub deleted_wf : WfAtoms p a.parameters a.deleted

-- a well-formed domain
pub record WfDomain (p : Problem) : Type 0 where
  pub types_wf : WfTypes p
  pub predicates_wf : AllByRecursion (WfPredicate p) p.predicates
  pub constant_names_differ : Distinct (map (λ c. c.name) p.constants)
  pub constants_wf : AllByRecursion (λ c. WfType p c.types) p.constants
  pub action_names_differ : Distinct (map (λ a. a.name) p.schemas)
  pub schemas_wf : AllByRecursion (WfSchema p) p.schemas

-- a well-formed fact: an atom of constants
abbrev pub WfFact : Problem → GroundAtom → Type 0
WfFact p a = WfAtom p [] a.predicate (map object a.objects)

-- a well-formed problem
pub record WellFormed (p : Problem) : Type 0 where
  pub domain_wf : WfDomain p
  pub initial_differ : Distinct p.initial
  pub initial_wf : AllByRecursion (WfFact p) p.initial
  pub goal_wf : WfFormula p [] p.goal

-- a world: which ground atoms are true; all others are false
abbrev pub World : Type 0
World = GroundAtom → Bool

-- an atom is true in a world
abbrev pub TrueIn : World → GroundAtom → Type 0
TrueIn w a = w a ≡ true

-- a well-formed world has well-formed facts only
abbrev pub WfWorld : Problem → World → Type 0
WfWorld p w = (a : GroundAtom) → TrueIn w a → WfFact p a

-- the initial world has the initial facts and no other
abbrev pub InitialWorld : Problem → World → Type 0
InitialWorld p w = (a : GroundAtom) → (TrueIn w a → ContainsAt p.initial a) × (ContainsAt p.initial a → TrueIn w a)

-- a world entails a formula whose parameters stand for objects
abbrev pub Entails : World → List ℕ → Formula → Type 0
Entails w args f = Holds (TrueIn w) args f

-- a plan action: the name of an action, and objects for its parameters
pub record PlanAction : Type 0 where
  pub name : List ℕ
  pub objects : List ℕ

-- the schema of a name
abbrev pub lookup : List ℕ → List Schema → Option Schema
lookup name [] = None
lookup name (a ∷ rest) = cond (bytes_eq a.name name) (Some a) (lookup name rest)

-- an atom with objects in the place of parameters
abbrev pub instance : List ℕ → TermAtom → GroundAtom
instance args a = ground a.predicate (map (ground_term args) a.terms)

-- a well-formed plan action: its schema exists, its objects are of the parameters' types, and what it adds and deletes is well-formed
pub record WfPlanAction (p : Problem) (act : PlanAction) : Type 0 where
  pub schema : Schema
  pub found : lookup act.name p.schemas ≡ Some schema
  pub objects_match : Pairwise (λ o place. IsOfType p [] (object o) place) act.objects schema.parameters
  pub effect_wf : AllByRecursion (WfFact p) (map (instance act.objects) schema.added) × AllByRecursion (WfFact p) (map (instance act.objects) schema.deleted)

-- a plan action is enabled in a world: it is well-formed, and the world entails its precondition
pub record Enabled (p : Problem) (act : PlanAction) (w : World) : Type 0 where
  pub action_wf : WfPlanAction p act
  pub precondition_holds : Entails w act.objects action_wf.schema.precondition

-- executing a plan action leads from one world to another: the world without the deleted atoms, with the added ones
pub record Executes (p : Problem) (act : PlanAction) (w v : World) : Type 0 where
  pub schema : Schema
  pub found : lookup act.name p.schemas ≡ Some schema
  pub only_these : (a : GroundAtom) → TrueIn v a → (TrueIn w a × (ContainsAt (map (instance act.objects) schema.deleted) a → ⊥)) ⊎ ContainsAt (map (instance act.objects) schema.added) a
  pub kept : (a : GroundAtom) → TrueIn w a → (ContainsAt (map (instance act.objects) schema.deleted) a → ⊥) → TrueIn v a
  pub added : (a : GroundAtom) → ContainsAt (map (instance act.objects) schema.added) a → TrueIn v a

-- two worlds are the same
abbrev pub SameWorld : World → World → Type 0
SameWorld w v = (a : GroundAtom) → w a ≡ v a

-- a path of enabled plan actions from one world to another
pub data Path (p : Problem) : World → List PlanAction → World → Type 0 where
  here : {w v : World} → SameWorld v w → Path p w [] v
  onward : {w v end : World} {act : PlanAction} {acts : List PlanAction} → Enabled p act w → Executes p act w v → Path p v acts end → Path p w (act ∷ acts) end

-- a valid plan leads from the initial world to one that entails the goal
pub record ValidPlan (p : Problem) (acts : List PlanAction) : Type 0 where
  pub start : World
  pub starts : InitialWorld p start
  pub end : World
  pub path : Path p start acts end
  pub meets_goal : Entails end [] p.goal
