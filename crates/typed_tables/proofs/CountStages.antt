-- What the first two passes of admission decide. Assumes nothing.
use Rattle.std.proofs.Common.{ℕ, ◌+◌, ◌≤◌, not, [], ◌∷◌, length, is_ok, Decides}
use Rattle.std.specs.List.{AllByRecursion as All}
use Rattle.std.proofs.lemmas.Bool.Decides.{Decides-like}
use Rattle.form.specs.declared.answers.Decline.TheVariants.{CountOutsideLimit, RunPastTable}
use Rattle.rows.specs.declared.runs.Run.{Run}
use Rattle.rows.specs.Scans.{passes}
use Rattle.rows.proofs.Firsts.{decides-neither, decides-table, decides-rows, decides-then, decides-at-most}
use Rattle.typed_tables.specs.declared.tables.Action.{Action}
use Rattle.typed_tables.specs.Tables.{Tables}
use Rattle.typed_tables.specs.Counts.{bad_arity, bad_action, long_goal, width_of, declaration_counts, counts}
use Rattle.typed_tables.specs.Runs.{object_passes, action_passes, goal_passes, runs}
use Rattle.typed_tables.specs.SourceLaws.{ActionLimits, Limits, Inside, ActionInside, RunsInside}
use Rattle.rows.proofs.Firsts.{decides-first}

decides-action-limits : (a : Action) → Decides (not (bad_action a)) (ActionLimits a)
decides-action-limits a =
    Decides-like (not (bad_action a))
    (λ h. record { few_parameters = h.0; few_changes = h.1.0; short_formula = h.1.1 })
    (λ h. (h.few_parameters, (h.few_changes, h.short_formula)))
    (decides-neither _ _ (decides-at-most a.parameters 4)
    (decides-neither _ _ (decides-at-most (a.added.count + a.deleted.count) 32) (decides-at-most a.formula.count 256)))

module _ (t : Tables) where
  -- the limits of types, edges, objects and predicates
  record DeclarationLimits : Type 0 where
    some_types : 1 ≤ t.types
    few_types : t.types ≤ 32
    few_edges : length t.edges ≤ 64
    few_objects : length t.objects ≤ 64
    few_predicates : length t.predicates ≤ 32
    few_places : All (λ p. p.arity ≤ 3) t.predicates
    few_cells : width_of t ≤ 1024

  decides-declarations : Decides (is_ok (declaration_counts t)) DeclarationLimits
  decides-declarations =
      Decides-like (is_ok (declaration_counts t))
      (λ h. record {
        some_types = h.0.0;
        few_types = h.0.1;
        few_edges = h.1.0;
        few_objects = h.1.1.0;
        few_predicates = h.1.1.1.0;
        few_places = h.1.1.1.1.0;
        few_cells = h.1.1.1.1.1;
      })
      (λ l. ((l.some_types, l.few_types), (l.few_edges, (l.few_objects, (l.few_predicates, (l.few_places, l.few_cells))))))
      (decides-then _ _ (decides-table CountOutsideLimit 0 _ (decides-neither _ _ (decides-at-most 1 t.types) (decides-at-most t.types 32)))
      (decides-then _ _ (decides-table CountOutsideLimit 1 _ (decides-at-most (length t.edges) 64))
      (decides-then _ _ (decides-table CountOutsideLimit 2 _ (decides-at-most (length t.objects) 64))
      (decides-then _ _ (decides-table CountOutsideLimit 3 _ (decides-at-most (length t.predicates) 32))
      (decides-then _ _ (decides-rows CountOutsideLimit 3 _ (decides-first bad_arity _ (λ p. decides-at-most p.arity 3) t.predicates))
      (decides-table CountOutsideLimit 3 _ (decides-at-most (width_of t) 1024)))))))

  pub decides-limits : Decides (is_ok (counts t)) (Limits t)
  decides-limits =
      Decides-like (is_ok (counts t))
      (λ h. record {
        some_types = h.0.some_types;
        few_types = h.0.few_types;
        few_edges = h.0.few_edges;
        few_objects = h.0.few_objects;
        few_predicates = h.0.few_predicates;
        few_places = h.0.few_places;
        few_cells = h.0.few_cells;
        few_actions = h.1.0;
        actions_limited = h.1.1.0;
        few_atoms = h.1.1.1.0;
        few_facts = h.1.1.1.1.0;
        short_goal = h.1.1.1.1.1.0.0;
        few_numbers = h.1.1.1.1.1.1.0;
        few_bytes = h.1.1.1.1.1.1.1;
      })
      (λ l. (
        record { some_types = l.some_types; few_types = l.few_types; few_edges = l.few_edges; few_objects = l.few_objects; few_predicates = l.few_predicates; few_places = l.few_places; few_cells = l.few_cells },
        (l.few_actions, (l.actions_limited, (l.few_atoms, (l.few_facts, ((l.short_goal, tt), (l.few_numbers, l.few_bytes)))))),
      ))
      (decides-then (declaration_counts t) _ decides-declarations
      (decides-then _ _ (decides-table CountOutsideLimit 4 _ (decides-at-most (length t.actions) 64))
      (decides-then _ _ (decides-rows CountOutsideLimit 4 _ (decides-first bad_action _ decides-action-limits t.actions))
      (decides-then _ _ (decides-table CountOutsideLimit 5 _ (decides-at-most (length t.atoms) 512))
      (decides-then _ _ (decides-table CountOutsideLimit 6 _ (decides-at-most (length t.facts) 1024))
      (decides-then _ _ (decides-rows CountOutsideLimit 7 _ (decides-first long_goal _ (λ g. decides-at-most g.formula.count 256) (t.goal ∷ [])))
      (decides-then _ _ (decides-table CountOutsideLimit 8 _ (decides-at-most (length t.formulas) 4096))
      (decides-table CountOutsideLimit 9 _ (decides-at-most (length t.names) 65536)))))))))

  decides-run : (r : Run) (n : ℕ) → Decides (not (passes r n)) (Inside r n)
  decides-run r n = decides-at-most (r.start + r.count) n

  decides-action-inside : (a : Action) → Decides (not (action_passes t a)) (ActionInside t a)
  decides-action-inside a =
      Decides-like (not (action_passes t a))
      (λ h. record { name_inside = h.0; formula_inside = h.1.0; added_inside = h.1.1.0; deleted_inside = h.1.1.1 })
      (λ h. (h.name_inside, (h.formula_inside, (h.added_inside, h.deleted_inside))))
      (decides-neither _ _ (decides-run a.name (length t.names))
      (decides-neither _ _ (decides-run a.formula (length t.formulas))
      (decides-neither _ _ (decides-run a.added (length t.atoms)) (decides-run a.deleted (length t.atoms)))))

  pub decides-runs : Decides (is_ok (runs t)) (RunsInside t)
  decides-runs =
      Decides-like (is_ok (runs t))
      (λ h. record { object_names = h.0; action_runs = h.1.0; goal_run = h.1.1.0 })
      (λ h. (h.object_names, (h.action_runs, (h.goal_run, tt))))
      (decides-then _ _ (decides-rows RunPastTable 2 _ (decides-first (object_passes t) _ (λ o. decides-run o.name (length t.names)) t.objects))
      (decides-then _ _ (decides-rows RunPastTable 4 _ (decides-first (action_passes t) _ decides-action-inside t.actions))
      (decides-rows RunPastTable 7 _ (decides-first (goal_passes t) _ (λ g. decides-run g.formula (length t.formulas)) (t.goal ∷ [])))))
