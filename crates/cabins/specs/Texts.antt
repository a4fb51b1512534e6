-- The text of a report, piece by piece.
use Rattle.std.specs.Prelude.{ℕ, ◌/◌, ◌%◌, List, [], ◌∷◌, ◌++◌, codes, decimal}
use Rattle.terms.specs.declared.tally.Tally.{Tally}

-- a figure as sendings for one packet, with two decimals: 150 is 1.50
abbrev pub per_packet : ℕ → List ℕ
per_packet f = decimal (f / 100) ++ (codes "." ++ (decimal (f / 10 % 10) ++ (decimal (f % 10) ++ codes " sendings per packet")))

-- a tally with its figure
abbrev pub cabin_text : Tally → List ℕ
cabin_text t = codes ": packets " ++ (decimal t.packets ++ (codes ", sendings " ++ (decimal t.sendings ++ (codes ", " ++ (per_packet t.figure ++ (10 ∷ []))))))

-- the line of a cabin
abbrev pub cabin_line : List ℕ → Tally → List ℕ
cabin_line name t = name ++ cabin_text t

-- the line of the whole site, with its figure
abbrev pub site_line : ℕ → List ℕ
site_line f = codes "whole site: " ++ (per_packet f ++ (10 ∷ []))

-- what is told of a line that cannot be read, by its number
abbrev pub unreadable_line : ℕ → List ℕ
unreadable_line n = codes "line " ++ (decimal n ++ codes " cannot be read: it should be a name, packets and sendings\n")

-- what is told of a list that the site call refuses, by the number of the refusal
abbrev pub refusal_line : ℕ → List ℕ
refusal_line n = codes "refused with " ++ (decimal n ++ codes ": a site has 1 to 400 cabins, and no count above 1099511627776\n")
