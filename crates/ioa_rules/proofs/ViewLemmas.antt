-- The names and the fields of what a source lists, read off the values of the program.
use Rattle.std.proofs.Common.{◌≡◌, List, map}
use Rattle.std.proofs.lemmas.Simd.{map-map}
use Rattle.ioa_tree.specs.declared.tree.Field.{Field}
use Rattle.ioa_tree.specs.declared.tree.Variable.{Variable}
use Rattle.ioa_tree.specs.declared.tree.Entry.{Entry}
use Rattle.ioa_tree.specs.declared.tree.Proposal.{Proposal}
use Rattle.ioa_tree.specs.declared.tree.Instance.{Instance}
use Rattle.ioa_tree.specs.View.{name_of, field_of, variable_of, entry_of, proposal_of, instance_of}

pub names-of_fields : (fs : List Field) → map (λ f. f.name) (map field_of fs) ≡ map (λ f. name_of f.name) fs
names-of_fields fs = map-map (λ f. f.name) field_of fs

pub names-of_variables : (vs : List Variable) → map (λ v. v.field.name) (map variable_of vs) ≡ map (λ v. name_of v.field.name) vs
names-of_variables vs = map-map (λ v. v.field.name) variable_of vs

pub names-of_entries : (es : List Entry) → map (λ e. e.name) (map entry_of es) ≡ map (λ e. name_of e.name) es
names-of_entries es = map-map (λ e. e.name) entry_of es

pub names-of_proposals : (ps : List Proposal) → map (λ p. p.name) (map proposal_of ps) ≡ map (λ p. name_of p.name) ps
names-of_proposals ps = map-map (λ p. p.name) proposal_of ps

pub names-of_instances : (is : List Instance) → map (λ i. i.name) (map instance_of is) ≡ map (λ i. name_of i.name) is
names-of_instances is = map-map (λ i. i.name) instance_of is

pub fields-of_variables : (vs : List Variable) → map (λ v. v.field) (map variable_of vs) ≡ map (λ v. field_of v.field) vs
fields-of_variables vs = map-map (λ v. v.field) variable_of vs

pub ruleset views = (names-of_fields, names-of_variables, names-of_entries, names-of_proposals, names-of_instances, fields-of_variables)
