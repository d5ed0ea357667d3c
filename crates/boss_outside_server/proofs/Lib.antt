mod Lists
mod RunLemmas
