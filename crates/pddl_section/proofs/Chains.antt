-- The readers of sections, step by step: what is read by each, or that none is there.
use mathlib.Core.Path.{◌≡◌, refl, sym, ap}
use mathlib.Core.Bool.{true, false, ◌&&◌}
use mathlib.Core.List.{List, [], ◌∷◌, ◌++◌}
use Prim.Native.Nat.{ℕ}
use native.Mathlib.Omega.{arith}
use Rattle.std.specs.Prelude.{Option, Some, None}
use Rattle.semantics.specs.Pddl.{Token, opening, closing, word, stray, Parsed, outside, parsed, ◌then◌, many}
use Rattle.semantics.specs.Pddl.{same_token}
use Rattle.semantics.specs.Pddl.{expect, atom, tokens}
use Rattle.semantics.specs.Pddl.{define', domain', problem', :predicates, :action, :parameters, :precondition, :effect}
use Rattle.semantics.specs.Pddl.{:domain, :init, :goal, formula, depth, action, domain, problem, member}
use Rattle.pddl_theory.specs.Inner.Place.{rest, leaves, items}
use Rattle.pddl_name.specs.declared.Span.{Span}
use Rattle.pddl_form.specs.declared.Word.{Word}
use Rattle.pddl_form.specs.Inner.Place.{left, atoms_from, Expects, Closes, Names, AtomsEnd}
use Rattle.pddl_formula.specs.declared.Literals.{Literals}
use Rattle.pddl_formula.specs.Inner.Formula.{Goes}
use Rattle.pddl_formula.proofs.Openings.{none_read, left-same}
use Rattle.pddl_section.specs.Inner.Section.{literals_at, Acts, Masked, actions_from, ActionsEnd}
use Rattle.pddl_section.specs.Inner.Section.{Domains, Problems, Members}
use Rattle.pddl_section.specs.declared.Act.{Act}
use Rattle.pddl_section.specs.declared.Domain.{Domain}
use Rattle.pddl_section.specs.declared.Problem.{Problem}
use Rattle.pddl_section.proofs.Patterns.{action-opening, parameters, effect-word, domain-opening}
use Rattle.pddl_section.proofs.Patterns.{problem-opening}
use Rattle.pddl_section.proofs.Patterns.{predicates-opening, domain-naming, init-opening, goal-opening}

-- a list that is read, by what it leaves
list-is : {A : Type 0} (p : Parsed (List A)) {ts : List Token} → leaves p ≡ parsed tt ts → p ≡ parsed (items p) ts
list-is outside e = absurd (none_read e)
list-is (parsed xs us) e = ap (parsed xs) (left-same e)

-- fixed tokens
expected : {text pattern : List ℕ} {at : ℕ} {r : Option ℕ} {es : List Token} → tokens pattern ≡ es
    → Expects text at pattern r → expect es (rest text at) ≡ left text r
expected e x = sym (rw e at x.same)

-- two closing parentheses, one after the other
two-closing : (ts : List Token) → expect (closing ∷ closing ∷ []) ts
    ≡ (expect (closing ∷ []) ts then λ _ us. expect (closing ∷ []) us)
unfolding expect same_token
two-closing [] = refl
two-closing (opening ∷ ts) = refl
two-closing (closing ∷ ts) = refl
two-closing (word w ∷ ts) = refl
two-closing (stray ∷ ts) = refl

-- ---- an action

module _ {text : List ℕ} {at : ℕ} where
  pub action_1 : Expects text at (40 ∷ :action) None → Acts text at None
  unfolding action
  action_1 x = record { same = rw (expected action-opening x); onward = tt }

  module _ {a : ℕ} (x-a : Expects text at (40 ∷ :action) (Some a)) where
    pub action_2 : Names text a None → Acts text at None
    unfolding action
    action_2 x = record { same = rw (expected action-opening x-a, ← x.same); onward = tt }

    module _ {w : Word} (x-w : Names text a (Some w)) where
      pub action_3 : Expects text w.next (:parameters ++ (40 ∷ 41 ∷ :precondition)) None → Acts text at None
      unfolding action
      action_3 x =
          record { same = rw (expected action-opening x-a, ← x-w.same, expected parameters x); onward = tt }

      module _ {b : ℕ} (x-b : Expects text w.next (:parameters ++ (40 ∷ 41 ∷ :precondition)) (Some b))
          {spans : List Span} {more : ℕ} where
        pub action_4 : Goes text spans more false b None → Acts text at None
        unfolding action
        action_4 x =
            record {
              same = rw (expected action-opening x-a, ← x-w.same, expected parameters x-b, x.means);
              onward = tt;
            }

        module _ {f : Literals} (x-f : Goes text spans more false b (Some f)) where
          needed : formula false depth (rest text b) ≡ parsed (literals_at text false b) (rest text f.next)
          needed = list-is (formula false depth (rest text b)) x-f.means.place

          pub action_5 : Expects text f.next :effect None → Acts text at None
          unfolding action
          action_5 x =
              record {
                same = rw (
                  expected action-opening x-a,
                  ← x-w.same,
                  expected parameters x-b,
                  needed,
                  expected effect-word x,
                );
                onward = tt;
              }

          module _ {d : ℕ} (x-d : Expects text f.next :effect (Some d)) where
            pub action_6 : Goes text spans more true d None → Acts text at None
            unfolding action
            action_6 x =
                record {
                  same = rw (
                    expected action-opening x-a,
                    ← x-w.same,
                    expected parameters x-b,
                    needed,
                    expected effect-word x-d,
                    x.means,
                  );
                  onward = tt;
                }

            module _ {g : Literals} (x-g : Goes text spans more true d (Some g)) where
              changed : formula true depth (rest text d) ≡ parsed (literals_at text true d) (rest text g.next)
              changed = list-is (formula true depth (rest text d)) x-g.means.place

              pub action_7 : Closes text g.next None → Acts text at None
              unfolding action
              action_7 x =
                  record {
                    same = rw (
                      expected action-opening x-a,
                      ← x-w.same,
                      expected parameters x-b,
                      needed,
                      expected effect-word x-d,
                      changed,
                      ← x.same,
                    );
                    onward = tt;
                  }

              module _ {z : ℕ} (x-z : Closes text g.next (Some z)) where
                abbrev made : Act
                made =
                    record {
                      first = w.first;
                      end = w.end;
                      precondition = b;
                      effect = d;
                      needs = f.adds;
                      adds = g.adds;
                      dels = g.dels;
                      known = f.known && g.known;
                      next = z;
                    }

                pub an_action : Acts text at (Some made)
                unfolding action
                an_action =
                    record {
                      same = rw (
                        expected action-opening x-a,
                        ← x-w.same,
                        expected parameters x-b,
                        needed,
                        expected effect-word x-d,
                        changed,
                        ← x-z.same,
                      );
                      onward = (
                        omega (
                          arith,
                          x-a.onward,
                          x-w.onward.0,
                          x-b.onward,
                          x-f.means.onward.0,
                          x-d.onward,
                          x-g.means.onward.0,
                          x-z.onward.0,
                        ),
                        x-z.onward.1,
                        x-w.onward.2,
                      );
                    }

                pub masked : Masked text spans more (Some made)
                masked =
                    record {
                      needs = x-f.means.adds;
                      adds = x-g.means.adds;
                      dels = x-g.means.dels;
                      names = rw (x-f.means.names, x-g.means.names);
                    }

-- ---- a domain

module _ {text : List ℕ} {at : ℕ} where
  pub domain_1 : Expects text at (40 ∷ define' ++ (40 ∷ domain')) None → Domains text at None
  unfolding domain
  domain_1 x = record { same = rw (expected domain-opening x); onward = tt }

  module _ {a : ℕ} (x-a : Expects text at (40 ∷ define' ++ (40 ∷ domain')) (Some a)) where
    pub domain_2 : Names text a None → Domains text at None
    unfolding domain
    domain_2 x = record { same = rw (expected domain-opening x-a, ← x.same); onward = tt }

    module _ {w : Word} (x-w : Names text a (Some w)) where
      pub domain_3 : Expects text w.next (41 ∷ 40 ∷ :predicates) None → Domains text at None
      unfolding domain
      domain_3 x =
          record { same = rw (expected domain-opening x-a, ← x-w.same, expected predicates-opening x); onward = tt }

      module _ {b c : ℕ} (x-b : Expects text w.next (41 ∷ 40 ∷ :predicates) (Some b))
          (x-c : AtomsEnd text b (Some c)) where
        predicates_read : many atom (rest text b) ≡ parsed (atoms_from text b) (rest text c)
        predicates_read = list-is (many atom (rest text b)) (sym x-c.same)

        pub domain_4 : Closes text c None → Domains text at None
        unfolding domain
        domain_4 x =
            record {
              same = rw (
                expected domain-opening x-a,
                ← x-w.same,
                expected predicates-opening x-b,
                predicates_read,
                ← x.same,
              );
              onward = tt;
            }

        module _ {d e : ℕ} (x-d : Closes text c (Some d)) (x-e : ActionsEnd text d e) where
          actions_read : many action (rest text d) ≡ parsed (actions_from text d) (rest text e)
          actions_read = list-is (many action (rest text d)) (sym x-e.same)

          pub domain_5 : Closes text e None → Domains text at None
          unfolding domain
          domain_5 x =
              record {
                same = rw (
                  expected domain-opening x-a,
                  ← x-w.same,
                  expected predicates-opening x-b,
                  predicates_read,
                  ← x-d.same,
                  actions_read,
                  ← x.same,
                );
                onward = tt;
              }

          pub a-domain : {z : ℕ} → Closes text e (Some z)
              → Domains text at (Some (record { first = w.first; end = w.end; predicates = b; actions = d; next = z }))
          unfolding domain
          a-domain x =
              record {
                same = rw (
                  expected domain-opening x-a,
                  ← x-w.same,
                  expected predicates-opening x-b,
                  predicates_read,
                  ← x-d.same,
                  actions_read,
                  ← x.same,
                );
                onward = (
                  omega (
                    arith,
                    x-a.onward,
                    x-w.onward.0,
                    x-b.onward,
                    x-c.onward,
                    x-d.onward.0,
                    x-e.onward,
                    x.onward.0,
                  ),
                  x.onward.1,
                  x-w.onward.2,
                );
              }

-- ---- a problem

module _ {text : List ℕ} {at : ℕ} where
  pub problem_1 : Expects text at (40 ∷ define' ++ (40 ∷ problem')) None → Problems text at None
  unfolding problem
  problem_1 x = record { same = rw (expected problem-opening x); onward = tt }

  module _ {a : ℕ} (x-a : Expects text at (40 ∷ define' ++ (40 ∷ problem')) (Some a)) where
    pub problem_2 : Names text a None → Problems text at None
    unfolding problem
    problem_2 x = record { same = rw (expected problem-opening x-a, ← x.same); onward = tt }

    module _ {v : Word} (x-v : Names text a (Some v)) where
      pub problem_3 : Expects text v.next (41 ∷ 40 ∷ :domain) None → Problems text at None
      unfolding problem
      problem_3 x =
          record { same = rw (expected problem-opening x-a, ← x-v.same, expected domain-naming x); onward = tt }

      module _ {b : ℕ} (x-b : Expects text v.next (41 ∷ 40 ∷ :domain) (Some b)) where
        pub problem_4 : Names text b None → Problems text at None
        unfolding problem
        problem_4 x =
            record {
              same = rw (expected problem-opening x-a, ← x-v.same, expected domain-naming x-b, ← x.same);
              onward = tt;
            }

        module _ {w : Word} (x-w : Names text b (Some w)) where
          pub problem_5 : Expects text w.next (41 ∷ 40 ∷ :init) None → Problems text at None
          unfolding problem
          problem_5 x =
              record {
                same = rw (
                  expected problem-opening x-a,
                  ← x-v.same,
                  expected domain-naming x-b,
                  ← x-w.same,
                  expected init-opening x,
                );
                onward = tt;
              }

          module _ {c d : ℕ} (x-c : Expects text w.next (41 ∷ 40 ∷ :init) (Some c))
              (x-d : AtomsEnd text c (Some d)) where
            initial_read : many atom (rest text c) ≡ parsed (atoms_from text c) (rest text d)
            initial_read = list-is (many atom (rest text c)) (sym x-d.same)

            pub problem_6 : Expects text d (41 ∷ 40 ∷ :goal) None → Problems text at None
            unfolding problem
            problem_6 x =
                record {
                  same = rw (
                    expected problem-opening x-a,
                    ← x-v.same,
                    expected domain-naming x-b,
                    ← x-w.same,
                    expected init-opening x-c,
                    initial_read,
                    expected goal-opening x,
                  );
                  onward = tt;
                }

            module _ {e : ℕ} (x-e : Expects text d (41 ∷ 40 ∷ :goal) (Some e)) {spans : List Span} {more : ℕ} where
              pub problem_7 : Goes text spans more false e None → Problems text at None
              unfolding problem
              problem_7 x =
                  record {
                    same = rw (
                      expected problem-opening x-a,
                      ← x-v.same,
                      expected domain-naming x-b,
                      ← x-w.same,
                      expected init-opening x-c,
                      initial_read,
                      expected goal-opening x-e,
                      x.means,
                    );
                    onward = tt;
                  }

              module _ {f : Literals} (x-f : Goes text spans more false e (Some f)) where
                goal_read : formula false depth (rest text e) ≡ parsed (literals_at text false e) (rest text f.next)
                goal_read = list-is (formula false depth (rest text e)) x-f.means.place

                pub problem_8 : Closes text f.next None → Problems text at None
                unfolding problem
                problem_8 x =
                    record {
                      same = rw (
                        expected problem-opening x-a,
                        ← x-v.same,
                        expected domain-naming x-b,
                        ← x-w.same,
                        expected init-opening x-c,
                        initial_read,
                        expected goal-opening x-e,
                        goal_read,
                        two-closing (rest text f.next),
                        ← x.same,
                      );
                      onward = tt;
                    }

                module _ {g : ℕ} (x-g : Closes text f.next (Some g)) where
                  pub problem_9 : Closes text g None → Problems text at None
                  unfolding problem
                  problem_9 x =
                      record {
                        same = rw (
                          expected problem-opening x-a,
                          ← x-v.same,
                          expected domain-naming x-b,
                          ← x-w.same,
                          expected init-opening x-c,
                          initial_read,
                          expected goal-opening x-e,
                          goal_read,
                          two-closing (rest text f.next),
                          ← x-g.same,
                          ← x.same,
                        );
                        onward = tt;
                      }

                  pub a-problem : {z : ℕ} → Closes text g (Some z)
                      → Problems text at
                      (Some (record { first = w.first; end = w.end; initially = c; goal = e; next = z }))
                  unfolding problem
                  a-problem x =
                      record {
                        same = rw (
                          expected problem-opening x-a,
                          ← x-v.same,
                          expected domain-naming x-b,
                          ← x-w.same,
                          expected init-opening x-c,
                          initial_read,
                          expected goal-opening x-e,
                          goal_read,
                          two-closing (rest text f.next),
                          ← x-g.same,
                          ← x.same,
                        );
                        onward = (
                          omega (
                            arith,
                            x-a.onward,
                            x-v.onward.0,
                            x-b.onward,
                            x-w.onward.0,
                            x-c.onward,
                            x-d.onward,
                            x-e.onward,
                            x-f.means.onward.0,
                            x-g.onward.0,
                            x.onward.0,
                          ),
                          x.onward.1,
                          x-w.onward.2,
                        );
                      }

-- ---- a member

module _ {text : List ℕ} {at : ℕ} where
  pub no-domain : Domains text at None → Members text at None
  unfolding member
  no-domain x = record { same = rw (← x.same); onward = tt }

  module _ {d : Domain} (x : Domains text at (Some d)) where
    pub no-problem : Problems text d.next None → Members text at None
    unfolding member
    no-problem y = record { same = rw (← x.same, ← y.same); onward = tt }

    pub a-member : {p : Problem} → Problems text d.next (Some p)
        → Members text at (Some (record { domain = d; problem = p }))
    unfolding member
    a-member y =
        record {
          same = rw (← x.same, ← y.same);
          onward = ((omega (arith, x.onward.0, y.onward.0), y.onward.1, y.onward.2), x.onward.2);
        }
